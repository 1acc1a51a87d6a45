-- What a reader gave stands at the buffer's front: at the reader's end it is all that there was, and else as much as there is room
-- for. Assumes nothing.
use Rattle.std.proofs.Common.{◌≡◌, sym, ap, ◌∙◌, subst, ℕ, ◌+◌, ◌≤◌, List, ◌++◌, length, take, drop, arith, append-nil, length-take-le, Option, None, Some, Ok}
use lib.Seq.{take-add, take-append-le, take_all, take_at, drop_at}
use borrow.Rule.Slice.PartMut.{put_mid, post_of}
use Rattle.std.specs.Io.KnownBytes.{Consumes, IsAtEnd}
use Rattle.std.proofs.KnownBytes.{Consumes-trans}
use Rattle.dump_io.specs.Streams.{IsFirst}

-- one read more
pub taken_more : (a b c : Option (List ℕ)) (done n : ℕ) (old new : List ℕ) → take done new ≡ take done old → Consumes a b (take done old) → Consumes b c (take n (drop done new)) → Consumes a c (take (done + n) new)
taken_more a b c done n old new front before read =
    subst (Consumes a c) (ap (λ (l : List ℕ). l ++ take n (drop done new)) (sym front) ∙ sym (take-add done n new)) (Consumes-trans a b c _ _ before read)

-- one read more, into the part behind the bytes that are there
pub taken_behind : (a b c : Option (List ℕ)) (done n k : ℕ) (buf part : List ℕ) → done ≤ length buf → n ≤ length part → Consumes a b (take done buf) → Consumes b c (take n part) → Consumes a c (take (done + n) (put_mid done k buf part))
taken_behind a b c done n k buf part there most before read =
    taken_more a b c done n buf (put_mid done k buf part) front before (subst (Consumes b c) (sym behind) read)
  where
    rest : List ℕ
    rest = part ++ post_of done k buf

    long : length (take done buf) ≡ done
    long = length-take-le done buf there

    front : take done (take done buf ++ rest) ≡ take done buf
    front = take_at (take done buf) rest done long

    behind : take n (drop done (take done buf ++ rest)) ≡ take n part
    behind =
        ap (take n) (drop_at (take done buf) rest done long) ∙ take-append-le n part (post_of done k buf) most

-- there are no more
pub first_end : (E : Type 0) (a b : Option (List ℕ)) (done : ℕ) (buf : List ℕ) → done ≤ length buf → Consumes a b (take done buf) → IsAtEnd b → IsFirst {E = E} a (Ok done) buf
first_end E None b done buf within took ended = tt
first_end E (Some xs) None done buf within took ended = absurd took
first_end E (Some xs) (Some ys) done buf within took ended =
    let whole : xs ≡ take done buf = took ∙ ap (λ (l : List ℕ). take done buf ++ l) ended ∙ append-nil (take done buf) in
    let long : length (take done buf) ≡ done = length-take-le done buf within in
    sym (ap (take (length buf)) whole ∙ take_all (length buf) (take done buf) (omega (arith, long, within)))

-- there is no more room
pub first_full : (E : Type 0) (a b : Option (List ℕ)) (done : ℕ) (buf : List ℕ) → done ≡ length buf → Consumes a b (take done buf) → IsFirst {E = E} a (Ok done) buf
first_full E None b done buf full took = tt
first_full E (Some xs) None done buf full took = absurd took
first_full E (Some xs) (Some ys) done buf full took =
    let long : length (take done buf) ≡ done = length-take-le done buf (omega (arith, full)) in
    sym (ap (take (length buf)) took ∙ take-append-le (length buf) (take done buf) ys (omega (arith, long, full)) ∙ take_all (length buf) (take done buf) (omega (arith, long, full)))
