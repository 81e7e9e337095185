-- What was read and written, beside what a reader has and what a writer holds, one call after another.
use Rattle.std.proofs.Common.{◌≡◌, ℕ, List, [], ◌++◌, Option, Some, None, refl, sym, ap, ◌∙◌, append_assoc, append-nil}
use Rattle.std.specs.Io.KnownBytes.{Keeps, Consumes, Appends, prepend_known}
use Rattle.ov_ends.specs.Ends.{KeepsInput, GivesWritten}

keeps_more : (a b c : Option (List ℕ)) → Keeps a b → Keeps b c → Keeps a c
keeps_more None b c first then = tt
keeps_more (Some xs) None c first then = absurd first
keeps_more (Some xs) (Some ys) None first then = then
keeps_more (Some xs) (Some ys) (Some zs) first then = then ∙ first

appends_more : (a b c : Option (List ℕ)) (xs ys : List ℕ) → Appends a b xs → Appends b c ys → Appends a c (xs ++ ys)
appends_more None b c xs ys first then = tt
appends_more (Some us) None c xs ys first then = absurd first
appends_more (Some us) (Some vs) None xs ys first then = then
appends_more (Some us) (Some vs) (Some ws) xs ys first then = then ∙ (ap (λ (l : List ℕ). l ++ ys) first ∙ append_assoc us xs ys)

appends_nothing : (a b : Option (List ℕ)) → Keeps a b → Appends a b []
appends_nothing None b h = tt
appends_nothing (Some xs) None h = h
appends_nothing (Some xs) (Some ys) h = h ∙ sym (append-nil xs)

takes_off : (read piece : List ℕ) (a b : Option (List ℕ)) → Consumes a b piece → Keeps (prepend_known read a) (prepend_known (read ++ piece) b)
takes_off read piece None b h = tt
takes_off read piece (Some xs) None h = h
takes_off read piece (Some xs) (Some ys) h = append_assoc read piece ys ∙ ap (λ (l : List ℕ). read ++ l) (sym h)

-- ---- what was read

-- one part after another
pub input-more : (r r' r'' : List ℕ) (a b c : Option (List ℕ)) → KeepsInput r a r' b → KeepsInput r' b r'' c → KeepsInput r a r'' c
input-more r r' r'' a b c first then = keeps_more (prepend_known r a) (prepend_known r' b) (prepend_known r'' c) first then

-- nothing was done
pub input-same : (r : List ℕ) (a : Option (List ℕ)) → KeepsInput r a r a
input-same r None = tt
input-same r (Some xs) = refl

-- a read that failed
pub input-kept : (r : List ℕ) (a b : Option (List ℕ)) → Keeps a b → KeepsInput r a r b
input-kept r None b h = tt
input-kept r (Some xs) None h = h
input-kept r (Some xs) (Some ys) h = ap (λ (l : List ℕ). r ++ l) h

-- a read of a piece
pub input-read : (r piece r' : List ℕ) (a b : Option (List ℕ)) → r' ≡ r ++ piece → Consumes a b piece → KeepsInput r a r' b
input-read r piece r' a b is h = rw is (takes_off r piece a b h)

-- ---- what was written

-- one part after another
pub given-more : (w w' w'' : List ℕ) (a b c : Option (List ℕ)) → GivesWritten w a w' b → GivesWritten w' b w'' c → GivesWritten w a w'' c
given-more w w' w'' a b c first then = record {
  since = first.since ++ then.since;
  written = then.written ∙ (ap (λ (l : List ℕ). l ++ then.since) first.written ∙ append_assoc w first.since then.since);
  given = appends_more a b c first.since then.since first.given then.given;
}

-- a write that failed, and a flush
pub given-kept : (w : List ℕ) (a b : Option (List ℕ)) → Keeps a b → GivesWritten w a w b
given-kept w a b h = record { since = []; written = sym (append-nil w); given = appends_nothing a b h }

-- nothing was done
pub given-same : (w : List ℕ) (a : Option (List ℕ)) → GivesWritten w a w a
given-same w None = given-kept w None None tt
given-same w (Some xs) = given-kept w (Some xs) (Some xs) refl
