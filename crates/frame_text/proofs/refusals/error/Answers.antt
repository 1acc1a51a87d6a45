-- Each refusal of the reader has its number and values in no step, but for those that a step met.
-- Assumes nothing.
use mathlib.Core.List.{[], ◌∷◌}
use Rattle.frame_text.proofs.Replies.{laid-plain}
use Rattle.frame_text.proofs.refusals.error.Goals as goal

pub returns-in-OutsideLimits-clause-text : goal.returns-in-OutsideLimits-clause-text
returns-in-OutsideLimits-clause-text c = rw c.in-OutsideLimits.is c.bare.ensures.text

pub returns-in-WrongLength-clause-text : goal.returns-in-WrongLength-clause-text
returns-in-WrongLength-clause-text c = rw c.in-WrongLength.is c.valued.ensures.text

pub returns-in-TablesFail-clause-text : goal.returns-in-TablesFail-clause-text
returns-in-TablesFail-clause-text c = rw c.in-TablesFail.is c.bare-in-TablesFail.ensures.text

pub returns-in-WrongCount-clause-text : goal.returns-in-WrongCount-clause-text
returns-in-WrongCount-clause-text c = rw c.in-WrongCount.is c.valued-in-WrongCount.ensures.text

pub returns-in-BandwidthIdxOutOfRange-clause-text : goal.returns-in-BandwidthIdxOutOfRange-clause-text
returns-in-BandwidthIdxOutOfRange-clause-text c = rw c.in-BandwidthIdxOutOfRange.is c.valued-in-BandwidthIdxOutOfRange.ensures.text

pub returns-in-LastNonZeroTupleGreaterThanYLen-clause-text : goal.returns-in-LastNonZeroTupleGreaterThanYLen-clause-text
returns-in-LastNonZeroTupleGreaterThanYLen-clause-text c = rw c.in-LastNonZeroTupleGreaterThanYLen.is (laid-plain 6 (c.in-LastNonZeroTupleGreaterThanYLen.lastnz ∷ c.in-LastNonZeroTupleGreaterThanYLen.ne ∷ []) c.numbers.ensures.text)

pub returns-in-PlcTriggerSns1OutOfRange-clause-text : goal.returns-in-PlcTriggerSns1OutOfRange-clause-text
returns-in-PlcTriggerSns1OutOfRange-clause-text c = rw c.in-PlcTriggerSns1OutOfRange.is c.valued-in-PlcTriggerSns1OutOfRange.ensures.text

pub returns-in-PlcTriggerSns2OutOfRange-clause-text : goal.returns-in-PlcTriggerSns2OutOfRange-clause-text
returns-in-PlcTriggerSns2OutOfRange-clause-text c = rw c.in-PlcTriggerSns2OutOfRange.is c.valued-in-PlcTriggerSns2OutOfRange.ensures.text

pub returns-in-Step-clause-text : goal.returns-in-Step-clause-text
returns-in-Step-clause-text c = rw c.in-Step.is c.met.ensures.text

pub returns-in-FourteenEscapes-clause-text : goal.returns-in-FourteenEscapes-clause-text
returns-in-FourteenEscapes-clause-text c = rw c.in-FourteenEscapes.is c.valued-in-FourteenEscapes.ensures.text

pub returns-in-NegativeResidualNumBits-clause-text : goal.returns-in-NegativeResidualNumBits-clause-text
returns-in-NegativeResidualNumBits-clause-text c = rw c.in-NegativeResidualNumBits.is c.bare-in-NegativeResidualNumBits.ensures.text
