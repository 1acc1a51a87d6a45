-- Document 01, "Dump": the text of a whole input: what is held between two fields, what a field prints, and how the text ends.
use Rattle.std.specs.Prelude.{ℕ, ◌+◌, ◌*◌, Bool, cond, List, [], ◌∷◌, ◌++◌, eqb, get_or, replicate}
use Rattle.std.proofs.lemmas.List.Edits.{sets}
use Rattle.common.specs.Tables.{Tables}
use Rattle.frame_reader.specs.Frame.{read_frame}
use Rattle.recording.specs.Tagged.{tag_configuration, tag_frame, tag_lookup, tag_frequencies, tag_bits, tag_orders, tag_coefficients, nothing, after}
use Rattle.recording.specs.Contents.{content_of, words_of, configuration_of}
use Rattle.recording.specs.Walk.{Ending, whole, malformed, Walk, walk_of}
use Rattle.recording.specs.declared.reader.Field.{Field}
use Rattle.frame_text.specs.Text.{text_of, end_text, stop_text}
use Rattle.dumping.specs.declared.State.{State}

-- "the input's first 65,536 bytes"
abbrev pub dump_most : ℕ
dump_most = 65536

-- the code's state (what came before, the configuration, the frames so far), and the five tables
pub record Held : Type 0 where
  pub state : State
  pub tables : Tables

-- at the start nothing came before; a frame comes only behind a configuration and all tables, so none of the zeros is read
abbrev pub started : State
started =
    record { before = nothing; configuration = record { fs_ind = 0; duration = 0; reading = 0 }; frames = 0 }

abbrev pub blank : Tables
blank =
    record {
      lookup = replicate 4096 0;
      frequencies = replicate (64 * 17) 0;
      bits = replicate (64 * 17) 0;
      orders = replicate (2 * 8) 0;
      coefficients = replicate (8 * 17) 0;
    }

abbrev pub start : Held
start = record { state = started; tables = blank }

-- a table's content, over what its place holds, if it is that table's
abbrev pub laid_if : Bool → List ℕ → List ℕ → List ℕ
laid_if there place content = cond there (sets place 0 content) place

abbrev pub tables_with : Tables → ℕ → List ℕ → Tables
tables_with t tag content =
    record {
      lookup = laid_if (eqb tag tag_lookup) t.lookup content;
      frequencies = laid_if (eqb tag tag_frequencies) t.frequencies (words_of content);
      bits = laid_if (eqb tag tag_bits) t.bits (words_of content);
      orders = laid_if (eqb tag tag_orders) t.orders (words_of content);
      coefficients = laid_if (eqb tag tag_coefficients) t.coefficients (words_of content);
    }

-- "a later configuration replaces it"; refused frames count too
abbrev pub state_with : State → ℕ → List ℕ → State
state_with s tag content =
    record {
      before = after s.before tag;
      configuration = cond (eqb tag tag_configuration) (configuration_of content) s.configuration;
      frames = s.frames + cond (eqb tag tag_frame) 1 0;
    }

abbrev pub held_with : Held → ℕ → List ℕ → Held
held_with h tag content =
    record { state = state_with h.state tag content; tables = tables_with h.tables tag content }

-- a frame prints its text, with the next number: "Configuration and tables are judged at each frame"; no other field prints
abbrev pub printed : Held → ℕ → List ℕ → List ℕ
printed h tag content =
    cond (eqb tag tag_frame)
    (text_of (h.state.frames + 1) h.state.configuration content (read_frame h.state.configuration h.tables 400 content)) []

-- what fields print one behind the other, and what is held behind them
unfoldable pub fields_text : Held → List ℕ → List Field → List ℕ
fields_text h input [] = []
fields_text h input (x ∷ xs) =
    printed h x.tag (content_of input x) ++ fields_text (held_with h x.tag (content_of input x)) input xs

unfoldable pub held_behind : Held → List ℕ → List Field → Held
held_behind h input [] = h
held_behind h input (x ∷ xs) = held_behind (held_with h x.tag (content_of input x)) input xs

-- "`end` counts frames"; "the first such field prints `stop 18` and the offset of its tag byte, and the program ends with no `end` line"
abbrev pub last_text : ℕ → Ending → List ℕ
last_text frames whole = end_text frames
last_text frames (malformed r) = stop_text (get_or r.values 0 0)

abbrev pub walk_text : Held → List ℕ → Walk → List ℕ
walk_text h input w =
    fields_text h input w.fields ++ last_text (held_behind h input w.fields).state.frames w.ending

abbrev pub dump_text : List ℕ → List ℕ
dump_text input = walk_text start input (walk_of dump_most input)
