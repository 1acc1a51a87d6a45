-- Frames one behind the other: one turn of the loop that reads them, its end, and that where each is refused nothing comes of them.
-- Assumes nothing.
use Prim.Native.Nat.{ℕ, zero, suc, ◌+◌, ◌-◌, ◌*◌, ◌/◌, ◌≤◌, ◌<◌}
use mathlib.Core.Path.{◌≡◌, refl, sym, ap, ◌∙◌}
use mathlib.Core.Bool.{true, false}
use mathlib.Core.List.{List, ◌++◌}
use native.Mathlib.Omega.{arith}
use native.Mathlib.Nat.{zero-add, suc-mul, div-add-mod', div-eq_of_lt}
use native.Mathlib.Numerals.{add-one}
use Rattle.std.proofs.Math.Nat.{add-div_left}
use Rattle.std.proofs.Common.{length-append}
use lib.ListN.{length, take, drop, length-drop}
use lib.Seq.{length-take-le, drop-drop, take-append_seam, drop-append_seam}
use lib.Dec.{ltb}
use lib.IntN.{ℤ}
use mir.Val.{bool_byte}
use Rattle.std.specs.Prelude.{Result, Ok, Err}
use Rattle.std.specs.Result.{is_ok}
use Rattle.common.specs.Reply.{Reply, Answer, accepted, refused, answer_by, tables_fail, wrong_count}
use Rattle.common.specs.Configuration.{frame_lines, reply_of}
use Rattle.common.specs.Tables.{Tables, tables_pass}
use Rattle.common.specs.declared.configuration.Configuration.{Configuration}
use Rattle.common.specs.declared.configuration.ConfigurationError.{ConfigurationError}
use Rattle.common.proofs.Rows.{next_row}
use Rattle.frame_reader.specs.Frame.{Frame, read_frame}
use Rattle.frame_reader.specs.Returned.{lines_behind, told}
use Rattle.frame_reader.proofs.Whole.{lines-refused, tables-refused, count-refused}
use Rattle.host.specs.Many.{one_if_read, accepted_of, lines_after}

-- a call's result is `Ok` exactly where its answer is accepted
pub ok-read : {A E : Type 0} (says : E → Reply) (r : Result A E) → bool_byte (is_ok r) ≡ one_if_read (answer_by says r)
ok-read says (Ok a) = refl
ok-read says (Err e) = refl

pub read_told : (reading : ℕ) (a : Answer Frame) → one_if_read (told reading a) ≡ one_if_read a
read_told reading (accepted fr) = refl
read_told reading (refused r) = refl

-- a part that begins at a place and ends a frame's length behind it has a frame's length
pub part_length : (at bytes : ℕ) (f : List ℕ) → at + bytes ≤ length f → length (take (at + bytes - at) (drop at f)) ≡ bytes
part_length at bytes f h =
    rw (next_row at bytes f) (length-take-le bytes (drop at f) (omega (arith, length-drop at f)))

module _ (read : List ℕ → Answer Frame) (bytes : ℕ) where
  -- one of those that are left, and the others
  accepted-turn : (left : ℕ) (f : List ℕ) → 0 < left → accepted_of read left bytes f ≡ one_if_read (read (take bytes f)) + accepted_of read (left - 1) bytes (drop bytes f)
  unfolding accepted_of
  accepted-turn zero f h = absurd (omega arith)
  accepted-turn (suc n) f h = let e : suc n - 1 ≡ n = omega arith in rw e refl

  lines-turn : (left : ℕ) (f : List ℕ) (before : List ℤ) → 0 < left → lines_after read left bytes f before ≡ lines_after read (left - 1) bytes (drop bytes f) (lines_behind (read (take bytes f)) before)
  unfolding lines_after
  lines-turn zero f before h = absurd (omega arith)
  lines-turn (suc n) f before h = let e : suc n - 1 ≡ n = omega arith in rw e refl

  -- from a place on, by what is read of the frame there
  module _ (left at : ℕ) (f : List ℕ) (h : 0 < left) where
    pub accepted-next : (one : ℕ) → one ≡ one_if_read (read (take (at + bytes - at) (drop at f))) → accepted_of read left bytes (drop at f) ≡ one + accepted_of read (left - 1) bytes (drop (at + bytes) f)
    accepted-next one e = rw (accepted-turn left (drop at f) h, ← next_row at bytes f, ← e, drop-drop) refl

    pub lines_next : (before behind : List ℤ) → behind ≡ lines_behind (read (take (at + bytes - at) (drop at f))) before → lines_after read left bytes (drop at f) before ≡ lines_after read (left - 1) bytes (drop (at + bytes) f) behind
    lines_next before behind e = rw (lines-turn left (drop at f) before h, ← next_row at bytes f, ← e, drop-drop) refl

  -- a part of a frame's length is one of those that fit
  pub one_more : (x rest : List ℕ) → 0 < bytes → length x ≡ bytes → length (x ++ rest) / bytes ≡ suc (length rest / bytes)
  one_more x rest some l = rw (length-append, l, add-div_left (length rest) some, add-one) refl

  -- the first of them, and those behind it
  module _ (x rest : List ℕ) (some : 0 < bytes) (l : length x ≡ bytes) where
    first : take bytes (x ++ rest) ≡ x
    first = rw (← l) (take-append_seam x rest)

    others : drop bytes (x ++ rest) ≡ rest
    others = rw (← l) (drop-append_seam x rest)

    -- without it there are left as many as fit into the rest
    fewer : suc (length rest / bytes) - 1 ≡ length rest / bytes
    fewer = omega arith

    pub accepted-more : accepted_of read (length (x ++ rest) / bytes) bytes (x ++ rest) ≡ one_if_read (read x) + accepted_of read (length rest / bytes) bytes rest
    accepted-more =
        rw (one_more x rest some l, accepted-turn (suc (length rest / bytes)) (x ++ rest) (omega arith), fewer, first, others) refl

    pub lines_more : (before : List ℤ) → lines_after read (length (x ++ rest) / bytes) bytes (x ++ rest) before ≡ lines_after read (length rest / bytes) bytes rest (lines_behind (read x) before)
    lines_more before =
        rw (one_more x rest some l, lines-turn (suc (length rest / bytes)) (x ++ rest) before (omega arith), fewer, first, others) refl

  -- no part of a frame's length is left
  none_left : (f : List ℕ) → length f < bytes → length f / bytes ≡ 0
  none_left f h = div-eq_of_lt h

  pub accepted-end : (left : ℕ) (f : List ℕ) → left ≤ 0 → accepted_of read left bytes f ≡ 0
  unfolding accepted_of
  accepted-end left f h = let e : left ≡ 0 = omega arith in rw e refl

  pub lines_end : (left : ℕ) (f : List ℕ) (before : List ℤ) → left ≤ 0 → lines_after read left bytes f before ≡ before
  unfolding lines_after
  lines_end left f before h = let e : left ≡ 0 = omega arith in rw e refl

  pub accepted-rest : (f : List ℕ) → length f < bytes → accepted_of read (length f / bytes) bytes f ≡ 0
  accepted-rest f h = accepted-end (length f / bytes) f (omega (arith, none_left f h))

  pub lines_rest : (f : List ℕ) (before : List ℤ) → length f < bytes → lines_after read (length f / bytes) bytes f before ≡ before
  lines_rest f before h = lines_end (length f / bytes) f before (omega (arith, none_left f h))

  -- each frame of this length is refused
  module _ (none : (g : List ℕ) → length g ≡ bytes → (r : Reply) × (read g ≡ refused r)) where
    pub none-accepted : (n : ℕ) (f : List ℕ) → n * bytes ≤ length f → accepted_of read n bytes f ≡ 0
    unfolding accepted_of
    none-accepted zero f h = refl
    none-accepted (suc n) f h =
        let s : suc n * bytes ≡ n * bytes + bytes = suc-mul n bytes in
        rw ((none (take bytes f) (length-take-le bytes f (omega arith))).1, zero-add)
        (none-accepted n (drop bytes f) (omega (arith, length-drop bytes f)))

    pub none-lines : (n : ℕ) (f : List ℕ) (before : List ℤ) → n * bytes ≤ length f → lines_after read n bytes f before ≡ before
    unfolding lines_after
    none-lines zero f before h = refl
    none-lines (suc n) f before h =
        let s : suc n * bytes ≡ n * bytes + bytes = suc-mul n bytes in
        rw (none (take bytes f) (length-take-le bytes f (omega arith))).1
        (none-lines n (drop bytes f) before (omega (arith, length-drop bytes f)))

-- as many as there are fit
pub all_fit : (frames : List ℕ) (bytes : ℕ) → length frames / bytes * bytes ≤ length frames
all_fit frames bytes = omega (arith, div-add-mod' (length frames) bytes)

-- where a check refuses, it refuses each frame
module _ (k : Configuration) (t : Tables) (count bytes : ℕ) (frames : List ℕ) (before : List ℤ) where
  abbrev Nothing : Type 0
  Nothing =
      (0 ≡ accepted_of (read_frame k t count) (length frames / bytes) bytes frames) ×
      (before ≡ lines_after (read_frame k t count) (length frames / bytes) bytes frames before)

  nothing : ((g : List ℕ) → length g ≡ bytes → (r : Reply) × (read_frame k t count g ≡ refused r)) → Nothing
  nothing none = (
    sym (none-accepted (read_frame k t count) bytes none (length frames / bytes) frames (all_fit frames bytes)),
    sym (none-lines (read_frame k t count) bytes none (length frames / bytes) frames before (all_fit frames bytes)),
  )

  pub lines-nothing : {r : Reply} → frame_lines k bytes ≡ refused r → Nothing
  lines-nothing {r} e = nothing (λ g s. (r, lines-refused k t count g (ap (λ (n : ℕ). frame_lines k n) s ∙ e)))

  -- no lines are what the checks answer
  pub unencoded-nothing : (r : Result ℕ ConfigurationError) → answer_by reply_of r ≡ frame_lines k bytes → ((ne : ℕ) → r ≡ Ok ne → ⊥) → Nothing
  unencoded-nothing (Ok ne) e none = absurd (none ne refl)
  unencoded-nothing (Err r) e none = lines-nothing (sym e)

  module _ (ne : ℕ) (e : frame_lines k bytes ≡ accepted ne) where
    pub tables-nothing : tables_pass t ≡ false → Nothing
    tables-nothing h = nothing (λ g s. (tables_fail, tables-refused k t count g ne (ap (λ (n : ℕ). frame_lines k n) s ∙ e) h))

    pub count-nothing : tables_pass t ≡ true → ltb count ne ≡ true → Nothing
    count-nothing h l =
        nothing (λ g s. (wrong_count count, count-refused k t count g ne (ap (λ (n : ℕ). frame_lines k n) s ∙ e) h l))
