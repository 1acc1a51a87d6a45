-- What the stage's refusals say: 9 to 11 in the step that met them, and 19, which stands in none.
use Rattle.common.specs.Reply.{Reply, fourteen_escapes}
use Rattle.coding.specs.Coding.{met_of}
use Rattle.spectral_data.specs.declared.inner.PairsError.{PairsError}
use Rattle.spectral_data.specs.declared.inner.PairsError.TheVariants.{Step, FourteenEscapes}

-- document 01's number and values of each refusal
abbrev pub error_of : PairsError → Reply
error_of (Step m) = met_of m
error_of (FourteenEscapes p) = fourteen_escapes p
