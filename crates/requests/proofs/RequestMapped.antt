-- The map of a pack's blocks is kept up by each request that a list may hold: it says how often each block is held before and after.
use Prim.Native.Nat.{ℕ}
use mathlib.Core.Path.{◌≡◌, sym, ap, ◌∙◌}
use mathlib.Core.Bool.{true}
use mathlib.Core.List.{List}
use native.Mathlib.Omega.{arith}
use Rattle.pack.specs.declared.Geometry.{Geometry}
use Rattle.pack.specs.Geometry.{geometry_of}
use Rattle.pack.specs.Consistent.{Consistent, held}
use Rattle.std.specs.Prelude.{Some}
use Rattle.consistency.specs.ConsistentTest.{consistent, opened_of}
use Rattle.consistency.specs.Mapped.{MappedIf}
use Rattle.consistency.proofs.ConsistentTestIff.{consistent_iff, opened_good}
use Rattle.creation.proofs.AllocMap.{alloc_mapped}
use Rattle.creation.proofs.OpenoEffect.{openo_held}
use Rattle.opening.proofs.OpenEffect.{open_held}
use Rattle.opening.proofs.CloseEffect.{close_held}
use Rattle.directory.specs.Renam.{new_key}
use Rattle.directory.proofs.DeletMapped.{delet_mapped}
use Rattle.directory.proofs.KeepEffect.{keep_held}
use Rattle.directory.proofs.RenamEffect.{renam_held}
use Rattle.appending.proofs.AppndEffect.{appnd_held}
use Rattle.requests.specs.Request.{Request, outcome, NotFormat, OPENO, OPEN, CLOSE, RENAM, APPND, KEEP}
use Rattle.requests.specs.RequestMap.{Listable, alloc, delet, renam, appnd, keep, openo, opens, close, map_after}
use Rattle.requests.proofs.RequestOpened.{opened_stays}

good_opened : (img : List ℕ) → consistent img ≡ true → opened_of img ≡ Some (geometry_of img)
unfolding opened_of
good_opened img tested = rw tested

-- where every block is held as often as before and the pack is opened as before, the map stays right as it is
map_stays : (map img img' : List ℕ) → opened_of img' ≡ opened_of img → (Consistent img → (b : ℕ) → held img' b ≡ held img b)
    → MappedIf map img → MappedIf map img'
map_stays map img img' same kept mapped tested =
    let o = opened_good img (geometry_of img') (sym same ∙ good_opened img' tested) in
    let m = mapped ((consistent_iff img).1 o.0) in
    record { enough = omega (arith, m.enough, ap (λ (g : Geometry). g.blocks) o.1); says = λ b. m.says b ∙ sym (kept o.0 b) }

-- none of them is Format
pub no_format : (r : Request) → Listable r → NotFormat r
no_format r (alloc key caller protect segments) form blocks contents uics is = let z : ◌≡◌ {A = ℕ} 0 1 = cc in absurd (omega (arith, z))
no_format r (delet key caller) form blocks contents uics is = let z : ◌≡◌ {A = ℕ} 0 1 = cc in absurd (omega (arith, z))
no_format r (renam old name1 name2 extension protect caller) form blocks contents uics is = let z : ◌≡◌ {A = ℕ} 0 1 = cc in absurd (omega (arith, z))
no_format r (appnd first second caller) form blocks contents uics is = let z : ◌≡◌ {A = ℕ} 0 1 = cc in absurd (omega (arith, z))
no_format r (keep key caller) form blocks contents uics is = let z : ◌≡◌ {A = ℕ} 0 1 = cc in absurd (omega (arith, z))
no_format r (openo key caller protect) form blocks contents uics is = let z : ◌≡◌ {A = ℕ} 0 1 = cc in absurd (omega (arith, z))
no_format r (opens mode key caller) form blocks contents uics is = let z : ◌≡◌ {A = ℕ} 0 1 = cc in absurd (omega (arith, z))
no_format r (close key mode) form blocks contents uics is = let z : ◌≡◌ {A = ℕ} 0 1 = cc in absurd (omega (arith, z))

-- ALLOC marks its run, DELET takes its blocks off, the other eight leave the map
pub says_stays : (r : Request) (listed : Listable r) (map img : List ℕ) → MappedIf map img → MappedIf (map_after r listed map img) (outcome r img).image
says_stays r (alloc key caller protect segments) map img mapped = alloc_mapped map img key caller protect segments mapped
says_stays r (delet key caller) map img mapped = delet_mapped map img key caller mapped
says_stays r (renam old name1 name2 extension protect caller) map img mapped =
    map_stays map img _ (opened_stays (RENAM old name1 name2 extension protect caller) (no_format _ (renam old name1 name2 extension protect caller)) img)
    (renam_held img old (new_key old name1 name2 extension) protect caller) mapped
says_stays r (appnd first second caller) map img mapped =
    map_stays map img _ (opened_stays (APPND first second caller) (no_format _ (appnd first second caller)) img) (appnd_held img first second caller) mapped
says_stays r (keep key caller) map img mapped = map_stays map img _ (opened_stays (KEEP key caller) (no_format _ (keep key caller)) img) (keep_held img key caller) mapped
says_stays r (openo key caller protect) map img mapped =
    map_stays map img _ (opened_stays (OPENO key caller protect) (no_format _ (openo key caller protect)) img) (openo_held img key caller protect) mapped
says_stays r (opens mode key caller) map img mapped =
    map_stays map img _ (opened_stays (OPEN mode key caller) (no_format _ (opens mode key caller)) img) (open_held mode img key caller) mapped
says_stays r (close key mode) map img mapped = map_stays map img _ (opened_stays (CLOSE key mode) (no_format _ (close key mode)) img) (close_held img key mode) mapped
