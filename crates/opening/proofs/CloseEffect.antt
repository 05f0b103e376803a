-- CLOSE: what it changes of the entry; a refusal changes nothing; the image stays consistent, other files untouched, each block its owner's, and none is taken or given up.
use Prim.Native.Nat.{ℕ, ◌+◌, ◌-◌}
use mathlib.Core.Path.{◌≡◌, refl, sym, subst, ◌∙◌}
use mathlib.Core.List.{List, []}
use mathlib.Core.Bool.{Bool, true, false, cond}
use mathlib.Core.Logic.{inl}
use native.Mathlib.Omega.{arith}
use native.Mathlib.Decide.{ℕ_discrete}
use lib.Dec.{eqb}
use borrow.Author.Tests.{ne_eqb, eqb-true}
use Rattle.answers.specs.Refusals.{first_of}
use Rattle.pack.specs.declared.Geometry.{Geometry}
use Rattle.pack.specs.declared.Key.{Key}
use Rattle.pack.specs.Geometry.{geometry_of}
use Rattle.pack.specs.Entry.{entry_of}
use Rattle.pack.specs.EntryWords.{set_entry_word}
use Rattle.pack.specs.Consistent.{held, Consistent}
use Rattle.pack.specs.Owner.{owner_of}
use Rattle.pack.specs.Untouched.{Untouched}
use Rattle.asking.specs.Asked.{entry_no, file_of}
use Rattle.asking.specs.Outcome.{Unchanged}
use Rattle.asking.proofs.Outcome.{code_is, refusal_keeps}
use Rattle.asking.proofs.AskedCleared.{Cleared, FileCleared, file_used}
use Rattle.frame.proofs.Described.{used_description}
use Rattle.opening.specs.Open.{with_opens}
use Rattle.opening.specs.CloseRows.{is_open_as, close_rows, close_word, close_value}
use Rattle.opening.specs.Close.{Closed, close}
use Rattle.opening.specs.Close.Closed.{a_reader, the_writer}
use Rattle.opening.proofs.CloseStage.{as_writer, some_reader, close_cleared}
use Rattle.opening.proofs.OpenWords.{Rules, OpensSet, RightOpens, writer_set, readers_set, request_file, request_consistent, request_untouched, request_owner, request_held}

-- the word that is written gives a reader less, or no writer
closed_set : (taken : Bool) {img : List ℕ} {key : Key} {g : Geometry} {e : ℕ} → Cleared img key g e
    → OpensSet img (set_entry_word img g e (cond taken 10 9) (cond taken ((entry_of img g e).readers - 1) 0)) g e
    (cond taken (entry_of img g e).writer 0) (cond taken ((entry_of img g e).readers - 1) (entry_of img g e).readers)
closed_set true c = readers_set c _
closed_set false c = writer_set c 0

-- the rules of opens hold afterwards
closed_rules : (taken : Bool) {img : List ℕ} {key : Key} → FileCleared img key
    → Rules (file_of img key).kind (cond taken (file_of img key).writer 0) (cond taken ((file_of img key).readers - 1) (file_of img key).readers)
closed_rules true {img} {key} f =
    let d = used_description img (geometry_of img) (entry_no img key) (file_of img key) (file_used f) in
    record { contiguous = d.contiguous; linked = d.linked; opens = omega (arith, (file_used f).opens) }
closed_rules false f = record { contiguous = λ is. inl refl; linked = λ is. inl refl; opens = omega (arith, (file_used f).opens) }

module _ (img : List ℕ) (key : Key) (mode : ℕ) where
  sets : first_of (close_rows img key mode) ≡ 0
      → RightOpens img (set_entry_word img (geometry_of img) (entry_no img key) (close_word mode) (close_value mode (file_of img key))) key
      (cond (eqb mode 4) (file_of img key).writer 0) (cond (eqb mode 4) ((file_of img key).readers - 1) (file_of img key).readers)
  unfolding file_of
  sets none =
      let f = (close_cleared img key mode none).0 in
      record { file = f; set = closed_set (eqb mode 4) f; rules = closed_rules (eqb mode 4) f }

  closed_file : (close img key mode).code ≡ 0 → file_of (close img key mode).image key
      ≡ with_opens (file_of img key) (cond (eqb mode 4) (file_of img key).writer 0) (cond (eqb mode 4) ((file_of img key).readers - 1) (file_of img key).readers)
  unfolding close
  closed_file = request_file (close_rows img key mode) sets

  was_open : (close img key mode).code ≡ 0 → is_open_as mode (file_of img key) ≡ true
  unfolding close
  was_open success = (close_cleared img key mode (sym (code_is (close_rows img key mode) img [] _) ∙ success)).1

  pub close_refused : ((close img key mode).code ≡ 0 → ⊥) → Unchanged (close img key mode) [] img []
  unfolding close
  close_refused never = refusal_keeps (close_rows img key mode) img [] _ never

  pub close_consistent : Consistent img → Consistent (close img key mode).image
  unfolding close
  close_consistent = request_consistent (close_rows img key mode) sets

  pub close_untouched : (key' : Key) → (key' ≡ key → ⊥) → Untouched key' img (close img key mode).image
  unfolding close
  close_untouched = request_untouched (close_rows img key mode) sets

  pub close_owner : (b : ℕ) → owner_of (close img key mode).image b ≡ owner_of img b
  unfolding close
  close_owner = request_owner (close_rows img key mode) sets

  pub close_held : Consistent img → (b : ℕ) → held (close img key mode).image b ≡ held img b
  unfolding close
  close_held right = request_held (close_rows img key mode) sets

-- "takes that open away", and nothing else of the entry changes
module _ (img : List ℕ) (key : Key) where
  pub close_entry_reader : (close img key 4).code ≡ 0
      → (file_of (close img key 4).image key ≡ with_opens (file_of img key) (file_of img key).writer ((file_of img key).readers - 1))
      × ((file_of img key).readers ≡ (file_of img key).readers - 1 + 1)
  close_entry_reader success =
      (closed_file img key 4 success, omega (arith, some_reader 4 (file_of img key) refl (was_open img key 4 success)))

  pub close_entry_writer : (mode : ℕ) → (mode ≡ 4 → ⊥) → (close img key mode).code ≡ 0
      → (file_of (close img key mode).image key ≡ with_opens (file_of img key) 0 (file_of img key).readers) × ((file_of img key).writer ≡ mode)
  close_entry_writer mode other success = (
    rw (ne_eqb mode 4 other) at (closed_file img key mode success),
    eqb-true (file_of img key).writer mode (as_writer mode (file_of img key) other ∙ was_open img key mode success),
  )

  pub close_entry : (mode : ℕ) → (close img key mode).code ≡ 0 → Closed (file_of img key) mode (file_of (close img key mode).image key)
  close_entry mode success = by (ℕ_discrete mode 4)
    where
      reading : (close img key 4).code ≡ 0 → Closed (file_of img key) 4 (file_of (close img key 4).image key)
      reading code = let r = close_entry_reader code in subst (Closed (file_of img key) 4) (sym r.0) (a_reader r.1)

      by : Dec (mode ≡ 4) → Closed (file_of img key) mode (file_of (close img key mode).image key)
      by (yes four) =
          subst (λ (m : ℕ). (close img key m).code ≡ 0 → Closed (file_of img key) m (file_of (close img key m).image key)) (sym four) reading success
      by (no other) = let w = close_entry_writer mode other success in subst (Closed (file_of img key) mode) (sym w.0) (the_writer other w.1)
