-- Reads and writes one after another, where the bytes are told.
use Rattle.std.proofs.Common.{◌≡◌, refl, [], append-nil, length-append, ℕ, ◌≤◌, List, ◌++◌, take, drop, length, append_assoc, arith, ◌+◌, ◌-◌, length-take}
use Rattle.std.proofs.KnownBytes.{Appends-trans, Consumes-nil, Consumes-trans}
use Rattle.std.proofs.lemmas.List.{take-take}
use Rattle.std.proofs.Math.Seq.{take-add}
use Rattle.std.specs.Prelude.{Option}
use Rattle.std.specs.Io.KnownBytes.{Appends, Consumes}
use Rattle.soqe_io.specs.Read.{HasRead}

-- the bytes that a sink took of a piece go on where the earlier pieces stopped
pub appends_piece : (a b c : Option (List ℕ)) (text : List ℕ) (done end n : ℕ) → Appends a b (take done text)
    → n ≤ length (take (end - done) (drop done text)) → Appends b c (take n (take (end - done) (drop done text)))
    → Appends a c (take (done + n) text)
appends_piece a b c text done end n before within more =
    let fits : n ≤ end - done = omega (arith, length-take {A = ℕ}) in
    rw take-add
    (Appends-trans a b c (take done text) (take n (drop done text)) before (rw (take-take n (end - done) (drop done text) fits) at more))

-- before the first read nothing has gone over
pub has_read_none : {T : Type 0} (HasTaken : T → List ℕ → Type 0) (before : Option (List ℕ)) (old : T) → HasRead HasTaken before before old old 0
has_read_none HasTaken before old = record {
  read = [];
  lost = Consumes-nil before;
  long = refl;
  taken = λ bytes h. rw append-nil h;
}

-- one more read, and what it gave was fed
pub has_read_more : {T : Type 0} (HasTaken : T → List ℕ → Type 0) (a b c : Option (List ℕ)) (x y z : T) (n k : ℕ) (piece : List ℕ) → length piece ≡ k
    → HasRead HasTaken a b x y n → Consumes b c piece → ((bytes : List ℕ) → HasTaken y bytes → HasTaken z (bytes ++ piece))
    → HasRead HasTaken a c x z (n + k)
has_read_more HasTaken a b c x y z n k piece size h lost taken = record {
  read = h.read ++ piece;
  lost = Consumes-trans a b c h.read piece h.lost lost;
  long = rw (length-append, h.long, size);
  taken = λ bytes k. rw (← append_assoc) (taken (bytes ++ h.read) (h.taken bytes k));
}
