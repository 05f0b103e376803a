-- The requests that write words of entries alone change no other word.
use Prim.Native.Nat.{ℕ, ◌+◌}
use mathlib.Core.Path.{◌≡◌, refl}
use mathlib.Core.Logic.{inl, inr}
use mathlib.Core.List.{List, [], ◌∷◌}
use native.Mathlib.Omega.{arith}
use native.Mathlib.Decide.{ℕ_discrete}
use borrow.Author.Tests.{eq-eqb, ne_eqb}
use Rattle.pack.specs.declared.Entry.{Entry}
use Rattle.pack.specs.declared.Key.{Key}
use Rattle.pack.specs.Geometry.{geometry_of, entry_at}
use Rattle.pack.specs.EntryWords.{words_of}
use Rattle.asking.specs.Asked.{entry_no}
use Rattle.creation.specs.Creating.{LowestEmpty, entry_for, created}
use Rattle.creation.specs.OpenoRows.{openo_rows}
use Rattle.creation.specs.Openo.{openo}
use Rattle.creation.proofs.CreatingStage.{creatable}
use Rattle.opening.specs.CloseRows.{close_rows, close_word}
use Rattle.opening.specs.Close.{close}
use Rattle.directory.specs.KeepRows.{keep_rows}
use Rattle.directory.specs.Keep.{keep}
use Rattle.directory.specs.RenamRows.{renam_rows}
use Rattle.directory.specs.Renam.{new_key, renam}
use Rattle.requests.specs.Request.{OPENO, CLOSE, RENAM, KEEP}
use Rattle.requests.specs.Changes.{InLowestEmpty, MayChange}
use Rattle.frame.specs.Framed.{ChangesOnly}
use Rattle.frame.proofs.ChangesWritten.{changes_then, changes_word, changes_words}
use Rattle.requests.proofs.ChangesWritten.{changes_settled}

-- a new file
pub created_changes : (img : List ℕ) (x : Entry) → LowestEmpty img (entry_for img) → ChangesOnly (InLowestEmpty img) img (created img x)
unfolding created
created_changes img x lowest =
    changes_words (words_of x) img (geometry_of img) (entry_for img) 0 (λ j low high. (entry_for img, (lowest, (omega arith, omega arith))))

pub openo_changes : (img : List ℕ) (key : Key) (caller protect : ℕ) → ChangesOnly (MayChange (OPENO key caller protect) img) img (openo img key caller protect).image
unfolding openo
openo_changes img key caller protect =
    changes_settled (openo_rows img key caller protect) img [] _ (λ clear. created_changes img _ (creatable img key caller protect _ clear).entry)

-- CLOSE
close_word_law : (img : List ℕ) (key : Key) (mode : ℕ) → MayChange (CLOSE key mode) img (entry_at (geometry_of img) (entry_no img key) + close_word mode)
close_word_law img key mode = by (ℕ_discrete mode 4)
  where
    by : Dec (mode ≡ 4) → MayChange (CLOSE key mode) img (entry_at (geometry_of img) (entry_no img key) + close_word mode)
    by (yes reader) = inl (reader, rw (eq-eqb mode 4 reader) refl)
    by (no writer) = inr (writer, rw (ne_eqb mode 4 writer) refl)

pub close_changes : (img : List ℕ) (key : Key) (mode : ℕ) → ChangesOnly (MayChange (CLOSE key mode) img) img (close img key mode).image
unfolding close
close_changes img key mode =
    changes_settled (close_rows img key mode) img [] _ (λ clear. changes_word img _ _ (close_word_law img key mode))

pub keep_changes : (img : List ℕ) (key : Key) (caller : ℕ) → ChangesOnly (MayChange (KEEP key caller) img) img (keep img key caller).image
unfolding keep
keep_changes img key caller =
    changes_settled (keep_rows img key caller) img [] _ (λ clear. changes_word img (entry_at (geometry_of img) (entry_no img key) + 4) _ refl)

pub renam_changes : (img : List ℕ) (old : Key) (name1 name2 extension protect caller : ℕ)
    → ChangesOnly (MayChange (RENAM old name1 name2 extension protect caller) img) img
    (renam img old (new_key old name1 name2 extension) protect caller).image
unfolding renam
renam_changes img old name1 name2 extension protect caller =
    changes_settled (renam_rows img old (new_key old name1 name2 extension) protect caller) img [] _
    (λ clear. changes_then
    (changes_words (name1 ∷ (name2 ∷ (extension ∷ []))) img (geometry_of img) (entry_no img old) 0 (λ j low high. inl (omega arith, omega arith)))
    (changes_word _ _ _ (inr refl)))
