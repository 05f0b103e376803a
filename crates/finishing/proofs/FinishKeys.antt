-- The keys of scratch files and the DELETs of them, entry by entry: the entries behind one whose file is gone are the same, so the DELETs that are left are.
use Prim.Native.Nat.{ℕ, suc, zero, ◌+◌, ◌≤◌, ◌<◌}
use mathlib.Core.Path.{◌≡◌, refl, sym, ap, subst, ◌∙◌}
use mathlib.Core.Bool.{true, false, cond}
use mathlib.Core.List.{List, [], ◌∷◌}
use native.Mathlib.Omega.{arith}
use lib.ListN.{length}
use Rattle.pack.specs.declared.Entry.{Entry}
use Rattle.pack.specs.declared.Geometry.{Geometry}
use Rattle.pack.specs.declared.Key.{Key}
use Rattle.pack.specs.Geometry.{geometry_of, slots}
use Rattle.pack.specs.Key.{key_in}
use Rattle.pack.specs.Entry.{entry_of}
use Rattle.pack.specs.Consistent.{Consistent}
use Rattle.directory.specs.Delet.{deleted}
use Rattle.directory.proofs.Deleted.{deleted_entry}
use Rattle.finishing.specs.ScratchTest.{is_scratch, keys_from}
use Rattle.finishing.specs.Finish.{deleted_all, EachDeleted}
use Rattle.finishing.specs.Finish.EachDeleted.{also}
use Rattle.finishing.proofs.ScratchTestDelet.{scratch_code, scratch_image}

-- the image that the DELETs of the scratch files among `k` entries from e on leave
abbrev pub swept_from : List ℕ → Geometry → ℕ → ℕ → ℕ → List ℕ
swept_from img g caller e k = deleted_all img caller (keys_from img g caller e k)

-- where the entries are the same, so are the keys
pub keys_same : (img img' : List ℕ) (g : Geometry) (caller e k : ℕ) → ((i : ℕ) → e ≤ i → i < e + k → entry_of img' g i ≡ entry_of img g i)
    → keys_from img' g caller e k ≡ keys_from img g caller e k
unfolding keys_from
keys_same img img' g caller e zero same = refl
keys_same img img' g caller e (suc k) same =
    ap (λ (x : Entry). cond (is_scratch caller x) (key_in x ∷ keys_from img' g caller (e + 1) k) (keys_from img' g caller (e + 1) k)) (same e (omega arith) (omega arith))
    ∙ ap (λ (keys : List Key). cond (is_scratch caller (entry_of img g e)) (key_in (entry_of img g e) ∷ keys) keys)
    (keys_same img img' g caller (e + 1) k (λ i low high. same i (omega arith) (omega arith)))

-- there is none where no entry passes the test
pub keys_none : (img : List ℕ) (g : Geometry) (caller e k : ℕ) → ((i : ℕ) → e ≤ i → i < e + k → is_scratch caller (entry_of img g i) ≡ false)
    → keys_from img g caller e k ≡ []
unfolding keys_from
keys_none img g caller e zero never = refl
keys_none img g caller e (suc k) never =
    rw (never e (omega arith) (omega arith)) (keys_none img g caller (e + 1) k (λ i low high. never i (omega arith) (omega arith)))

-- the first entry
module _ (img : List ℕ) (g : Geometry) (caller e k : ℕ) where
  pub keys_here : is_scratch caller (entry_of img g e) ≡ true → keys_from img g caller e (suc k) ≡ key_in (entry_of img g e) ∷ keys_from img g caller (e + 1) k
  unfolding keys_from
  keys_here is = rw is

  pub keys_other : is_scratch caller (entry_of img g e) ≡ false → keys_from img g caller e (suc k) ≡ keys_from img g caller (e + 1) k
  unfolding keys_from
  keys_other is = rw is

-- an entry whose file is deleted because it passes the test
module _ {img : List ℕ} {g : Geometry} (stated : g ≡ geometry_of img) (right : Consistent img) (caller e : ℕ) (inside : e < slots g)
    (is : is_scratch caller (entry_of img g e) ≡ true) where
  module _ (k : ℕ) (fits : e + suc k ≤ slots g) where
    pub here_behind : keys_from (deleted img g e) g caller (e + 1) k ≡ keys_from img g caller (e + 1) k
    here_behind =
        keys_same img (deleted img g e) g caller (e + 1) k (λ i low high. deleted_entry stated right e inside i (omega (arith, fits)) (λ same. omega (arith, low, same)))

    -- "the one those DELETs leave"
    pub here_swept : swept_from img g caller e (suc k) ≡ swept_from (deleted img g e) g caller (e + 1) k
    unfolding deleted_all
    here_swept =
        ap (deleted_all img caller) (keys_here img g caller e k is)
        ∙ ap (λ (img' : List ℕ). deleted_all img' caller (keys_from img g caller (e + 1) k)) (scratch_image stated right e inside caller is)
        ∙ ap (deleted_all (deleted img g e) caller) (sym here_behind)

    pub here_count : length (keys_from img g caller e (suc k)) ≡ 1 + length (keys_from (deleted img g e) g caller (e + 1) k)
    here_count = omega (arith, ap length (keys_here img g caller e k is), ap length here_behind)

    pub here_each : EachDeleted caller (deleted img g e) (keys_from (deleted img g e) g caller (e + 1) k)
        → EachDeleted caller img (keys_from img g caller e (suc k))
    here_each rest =
        subst (EachDeleted caller img) (sym (keys_here img g caller e k is))
        (also (scratch_code stated right e inside caller is)
        (subst (λ (img' : List ℕ). EachDeleted caller img' (keys_from img g caller (e + 1) k)) (sym (scratch_image stated right e inside caller is))
        (subst (EachDeleted caller (deleted img g e)) here_behind rest)))
