-- Each test of a request's rows decides the proposition of its case.
use Prim.Native.Nat.{ℕ, ◌≤◌, ◌<◌}
use mathlib.Core.Path.{◌≡◌, refl, sym}
use mathlib.Core.Logic.{◌↔◌, ◌⊎◌, inl, inr, ⊎_elim}
use mathlib.Core.Bool.{Bool, true, false, not, ◌&&◌, ◌||◌}
use mathlib.Core.List.{List}
use mathlib.Core.Option.{Option, none, some}
use native.Mathlib.Omega.{arith}
use native.Mathlib.Decide.{ℕ_discrete, dec_lt}
use lib.Dec.{eqb, leb, ltb}
use borrow.Author.Tests.{eqb-true, eqb-false, ltb-true, lt-ltb, leb-true, le-leb, eq-eqb, ne_eqb}
use Rattle.answers.specs.Missing.{missing}
use Rattle.answers.proofs.Missing.{missing_iff}
use Rattle.pack.specs.declared.Key.{Key}
use Rattle.pack.specs.declared.Entry.{Entry}
use Rattle.pack.specs.Consistent.{Consistent}
use Rattle.pack.specs.Geometry.{geometry_of}
use Rattle.pack.proofs.HeaderRules.{header_sized}
use Rattle.answers.proofs.RefusalsTests.{true_not_false}
use Rattle.consistency.specs.ConsistentTest.{consistent}
use Rattle.consistency.proofs.ConsistentTestIff.{consistent_iff}
use Rattle.asking.specs.declared.Right.{Right}
use Rattle.asking.specs.KeysTest.{legal_key, found}
use Rattle.asking.specs.RightsTest.{may}
use Rattle.asking.specs.Rights.{May}
use Rattle.asking.proofs.Keys.{legal_iff, found_iff, absent_iff}
use Rattle.asking.proofs.Rights.{may_iff}
use Rattle.creation.specs.CreatingLowest.{lowest_empty}
use Rattle.room.specs.RoomTest.{highest_run}
use Rattle.room.specs.Room.{FreeRun}
use Rattle.creation.specs.Rounding.{length_for}
use Rattle.creation.proofs.AllocBlocks.{blocks_some}
use Rattle.creation.proofs.CreatingLowest.{empty_none}
use Rattle.room.proofs.RoomHighest.{run_none}
use Rattle.opening.specs.CloseRows.{wrong_mode, is_open_as}
use Rattle.pack.specs.KeyTest.{same_key}
use Rattle.pack.proofs.KeySame.{same_key_iff, same_equal, equal_same}
use Rattle.promises.specs.Codes.{LegalKey, Exists, Full, NoMode, OpenAs, writing, reading}
use Rattle.promises.proofs.GivenWhen.{fails}

-- numbers
pub equal_numbers : (a b : ℕ) → eqb a b ≡ true ↔ a ≡ b
equal_numbers a b = (eqb-true a b, eq-eqb a b)

pub above : (a b : ℕ) → ltb a b ≡ true ↔ a < b
above a b = (ltb-true a b, lt-ltb a b)

pub at_least : (a b : ℕ) → leb a b ≡ true ↔ a ≤ b
at_least a b = (leb-true a b, le-leb a b)

-- a row that is given where a test fails, or where one of two holds
pub denies : {A : Type 0} (b : Bool) → (b ≡ true ↔ A) → not b ≡ true ↔ (A → ⊥)
denies true iff = (λ never. true_not_false (sym never), λ never. absurd (never (iff.0 refl)))
denies false iff = (λ t. fails false iff refl, λ t. refl)

pub either : {A B : Type 0} (a b : Bool) → a ≡ true ↔ A → b ≡ true ↔ B → a || b ≡ true ↔ A ⊎ B
either true b first second = (λ t. inl (first.0 refl), λ x. refl)
either false true first second = (λ t. inr (second.0 refl), λ x. refl)
either false false first second = (λ never. true_not_false (sym never), λ x. ⊎_elim first.1 second.1 x)

pub both : {A B : Type 0} (a b : Bool) → a ≡ true ↔ A → b ≡ true ↔ B → a && b ≡ true ↔ A × B
both true b first second = (λ t. (first.0 refl, second.0 t), λ x. second.1 x.1)
both false b first second = (λ never. true_not_false (sym never), λ x. absurd (true_not_false (sym (first.1 x.0))))

pub one_alone : {A : Type 0} (a : Bool) → a ≡ true ↔ A → a || false ≡ true ↔ A
one_alone true first = first
one_alone false first = first

-- a request that has no argument of its own
pub no_argument : false ≡ true ↔ ⊥
no_argument = (λ never. true_not_false (sym never), λ never. absurd never)

-- 40
pub inconsistent : (img : List ℕ) → not (consistent img) ≡ true ↔ (Consistent img → ⊥)
inconsistent img = denies (consistent img) (consistent_iff img)

-- 15
pub illegal : (key : Key) → not (legal_key key) ≡ true ↔ (LegalKey key → ⊥)
illegal key = denies (legal_key key) legal_both
  where
    legal_both : legal_key key ≡ true ↔ LegalKey key
    legal_both = (λ t. let l = (legal_iff key).0 t in record { name = l.0; extension = l.1 }, λ l. (legal_iff key).1 (l.name, l.extension))

-- 41: a mode that there is not, and two keys of one name, extension and UIC, which are one key
pub mode_iff : (mode : ℕ) → wrong_mode mode ≡ true ↔ NoMode mode
mode_iff mode = either (eqb mode 0) (ltb 4 mode) (equal_numbers mode 0) (above 4 mode)

pub one_key : (a b : Key) → same_key a b ≡ true ↔ a ≡ b
one_key a b = (λ t. same_equal ((same_key_iff a b).0 t), λ is. (same_key_iff a b).1 (equal_same is))

-- 2: no entry has the key, or one has it
pub absent_key : {img : List ℕ} → Consistent img → (key : Key) → legal_key key ≡ true → missing (found img key) ≡ true ↔ (Exists img key → ⊥)
absent_key {img} right key legal =
    let absent = absent_iff right key legal in
    missing_iff (found img key) (
      λ is there. absent.0 is there.entry there.inside there.keyed,
      λ never. absent.1 (λ e inside keyed. never (record { entry = e; inside = inside; keyed = keyed })),
    )

pub present_key : {img : List ℕ} → Consistent img → (key : Key) → legal_key key ≡ true → not (missing (found img key)) ≡ true ↔ Exists img key
present_key {img} right key legal = by (found img key) refl
  where
    by : (o : Option ℕ) → found img key ≡ o → not (missing (found img key)) ≡ true ↔ Exists img key
    by none is =
        (λ t. true_not_false (sym (rw is at t)), λ there. absurd ((absent_iff right key legal).0 is there.entry there.inside there.keyed))
    by (some e) is =
        let at = (found_iff right key legal e).0 is in
        (λ t. record { entry = e; inside = at.0; keyed = at.1 }, λ there. rw is)

-- 6
pub lacks_right : (right : Right) (caller uic protect : ℕ) → not (may right caller uic protect) ≡ true ↔ (May caller uic protect right → ⊥)
lacks_right right caller uic protect = denies (may right caller uic protect) (may_iff right caller uic protect)

-- 45: open as a mode says; no reader
pub as_iff : (mode : ℕ) (x : Entry) → is_open_as mode x ≡ true ↔ OpenAs x mode
unfolding is_open_as
as_iff mode x = by (ℕ_discrete mode 4)
  where
    by : Dec (mode ≡ 4) → is_open_as mode x ≡ true ↔ OpenAs x mode
    by (yes four) = (λ t. reading four (ltb-true 0 x.readers (rw (eq-eqb mode 4 four) at t)), to)
      where
        to : OpenAs x mode → is_open_as mode x ≡ true
        to (writing other is) = absurd (other four)
        to (reading is there) = rw (eq-eqb mode 4 four) (lt-ltb 0 x.readers there)
    by (no other) = (λ t. writing other (eqb-true x.writer mode (rw (ne_eqb mode 4 other) at t)), to)
      where
        to : OpenAs x mode → is_open_as mode x ≡ true
        to (writing again is) = rw (ne_eqb mode 4 other) (eq-eqb x.writer mode is)
        to (reading four there) = absurd (other four)

pub unread : (readers : ℕ) → eqb readers 0 ≡ true ↔ (0 < readers → ⊥)
unread readers =
    (λ t more. absurd (omega (arith, eqb-true readers 0 t)), λ never. eq-eqb readers 0 (zero (dec_lt 0 readers) never))
  where
    zero : Dec (0 < readers) → (0 < readers → ⊥) → readers ≡ 0
    zero (yes more) never = absurd (never more)
    zero (no few) never = omega (arith, few)

-- 12: no entry is empty
pub full : (img : List ℕ) → missing (lowest_empty img) ≡ true ↔ Full img
full img = missing_iff (lowest_empty img) (empty_none img)

-- 42: no run of the length is free
pub crowded : {img : List ℕ} → Consistent img → (segments : ℕ) → eqb segments 0 ≡ false
    → missing (highest_run img (length_for img segments)) ≡ true ↔ ((s : ℕ) → FreeRun img (length_for img segments) s → ⊥)
crowded {img} right segments some_segments = missing_iff (highest_run img (length_for img segments)) (run_none img (length_for img segments) positive)
  where
    positive : 0 < length_for img segments
    positive = blocks_some (geometry_of img) segments (header_sized img right.header).some (omega (arith, eqb-false segments 0 some_segments))
