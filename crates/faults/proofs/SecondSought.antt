-- The second file that reaches a block, as it is sought: it is the second holder where no file reaches the block twice.
use Prim.Native.Nat.{ℕ, suc, zero, ◌+◌, ◌≤◌, ◌<◌}
use mathlib.Core.Path.{◌≡◌, sym, ap, subst}
use mathlib.Core.Bool.{Bool, true, false}
use mathlib.Core.List.{List}
use native.Mathlib.Omega.{arith}
use native.Mathlib.Decide.{ℕ_discrete, dec_lt}
use borrow.Author.Tests.{lt-ltb, le-ltb}
use Rattle.pack.specs.declared.Geometry.{Geometry}
use Rattle.pack.specs.Geometry.{geometry_of, slots}
use Rattle.pack.specs.File.{count}
use Rattle.pack.specs.Entry.{blocks_at}
use Rattle.pack.specs.Consistent.{total, held}
use Rattle.pack.proofs.ConsistentTotal.{total_two}
use Rattle.faults.specs.Second.{second_from, second}
use Rattle.faults.specs.Report.{entry_order, SecondHolder}
use Rattle.faults.specs.FirstFault.{AllHold}
use Rattle.faults.proofs.RulesEntryRight.{entry_fine}

module _ (img : List ℕ) (g : Geometry) (b : ℕ) where
  -- how often the file of entry e reaches the block
  abbrev reaching : ℕ → ℕ
  reaching e = count b (blocks_at img g e)

  -- the search step by step
  pub second_here : (e k : ℕ) → 0 < count b (blocks_at img g e) → second_from img g b true e (suc k) ≡ e
  unfolding second_from
  second_here e k some = simp (lt-ltb 0 (count b (blocks_at img g e)) some)

  pub second_first : (e k : ℕ) → 0 < count b (blocks_at img g e) → second_from img g b false e (suc k) ≡ second_from img g b true (e + 1) k
  unfolding second_from
  second_first e k some = simp (lt-ltb 0 (count b (blocks_at img g e)) some)

  pub second_past : (seen : Bool) (e k : ℕ) → count b (blocks_at img g e) ≤ 0 → second_from img g b seen e (suc k) ≡ second_from img g b seen (e + 1) k
  unfolding second_from
  second_past seen e k none = simp (le-ltb 0 (count b (blocks_at img g e)) none)

  -- the first from e on that reaches the block
  record Nearest (e k z : ℕ) : Type 0 where
    low : e ≤ z
    high : z < e + k
    reaches : 0 < count b (blocks_at img g z)
    none : (f : ℕ) → e ≤ f → f < z → 0 < count b (blocks_at img g f) → ⊥

  nearest_later : {e k z : ℕ} → count b (blocks_at img g e) ≤ 0 → Nearest (e + 1) k z → Nearest e (suc k) z
  nearest_later {e} never later =
      record {
        low = omega (arith, later.low);
        high = omega (arith, later.high);
        reaches = later.reaches;
        none = λ f low below some. elim (ℕ_discrete e f) [
          | yes is ↦ omega (arith, never, some, ap reaching is)
          | no other ↦ later.none f (omega (arith, other)) below some
        ];
      }

  nearest : (e k : ℕ) → 0 < total (λ i. count b (blocks_at img g i)) e k → Nearest e k (second_from img g b true e k)
  unfolding total
  nearest e zero some = absurd (omega arith)
  nearest e (suc k) some =
      elim (dec_lt 0 (count b (blocks_at img g e))) [
        | yes here ↦
            subst (Nearest e (suc k)) (sym (second_here e k here))
            (record { low = omega arith; high = omega arith; reaches = here; none = λ f low below. absurd (omega arith) })
        | no never ↦
            subst (Nearest e (suc k)) (sym (second_past true e k (omega (arith, never))))
            (nearest_later (omega (arith, never)) (nearest (e + 1) k (omega (arith, some, never))))
      ]

  -- of the `k` entries from e on, the second that reaches the block
  record Pair (e k z : ℕ) : Type 0 where
    high : z < e + k
    reaches : 0 < count b (blocks_at img g z)
    first : ℕ
    low : e ≤ first
    before : first < z
    too : 0 < count b (blocks_at img g first)
    only : (f : ℕ) → e ≤ f → f < z → 0 < count b (blocks_at img g f) → f ≡ first

  pair_first : {e k z : ℕ} → 0 < count b (blocks_at img g e) → Nearest (e + 1) k z → Pair e (suc k) z
  pair_first {e} here near =
      record {
        high = omega (arith, near.high);
        reaches = near.reaches;
        first = e;
        low = omega arith;
        before = omega (arith, near.low);
        too = here;
        only = λ f low below some. elim (ℕ_discrete e f) [
          | yes is ↦ sym is
          | no other ↦ absurd (near.none f (omega (arith, other)) below some)
        ];
      }

  pair_later : {e k z : ℕ} → count b (blocks_at img g e) ≤ 0 → Pair (e + 1) k z → Pair e (suc k) z
  pair_later {e} never later =
      record {
        high = omega (arith, later.high);
        reaches = later.reaches;
        first = later.first;
        low = omega (arith, later.low);
        before = later.before;
        too = later.too;
        only = λ f low below some. elim (ℕ_discrete e f) [
          | yes is ↦ absurd (omega (arith, never, some, ap reaching is))
          | no other ↦ later.only f (omega (arith, other)) below some
        ];
      }

  pair : (e k : ℕ) → ((i : ℕ) → e ≤ i → i < e + k → count b (blocks_at img g i) ≤ 1) → 1 < total (λ i. count b (blocks_at img g i)) e k
      → Pair e k (second_from img g b false e k)
  unfolding total
  pair e zero once twice = absurd (omega arith)
  pair e (suc k) once twice =
      elim (dec_lt 0 (count b (blocks_at img g e))) [
        | yes here ↦
            subst (Pair e (suc k)) (sym (second_first e k here))
            (pair_first here (nearest (e + 1) k (omega (arith, twice, once e (omega arith) (omega arith)))))
        | no never ↦
            subst (Pair e (suc k)) (sym (second_past false e k (omega (arith, never))))
            (pair_later (omega (arith, never)) (pair (e + 1) k (λ i low high. once i (omega arith) (omega arith)) (omega (arith, twice, never))))
      ]

pub second_holder : (img : List ℕ) (b : ℕ) → ((e : ℕ) → e < slots (geometry_of img) → count b (blocks_at img (geometry_of img) e) ≤ 1) → 1 < held img b
    → SecondHolder img b (second img b)
unfolding held second
second_holder img b once twice =
    let p = pair img (geometry_of img) b 0 (slots (geometry_of img)) (λ e low high. once e (omega arith)) twice in
    record {
      inside = omega (arith, p.high);
      reaches = p.reaches;
      first = p.first;
      before = p.before;
      too = p.too;
      only = λ f below some. p.only f (omega arith) below some;
    }

-- there is one second holder
pub holder_one : {img : List ℕ} {b e f : ℕ} → SecondHolder img b e → SecondHolder img b f → e ≡ f
holder_one {img} {b} {e} {f} h k =
    elim (dec_lt e f) [
      | yes less ↦ absurd (omega (arith, h.before, k.only e less h.reaches, k.only h.first (omega (arith, less, h.before)) h.too))
      | no not-less ↦ elim (dec_lt f e) [
        | yes less ↦ absurd (omega (arith, k.before, h.only f less k.reaches, h.only k.first (omega (arith, less, k.before)) k.too))
        | no same ↦ omega (arith, not-less, same)
      ]
    ]

-- a block with a second holder is held twice, and the second holder is the one sought
pub holder_twice : {img : List ℕ} {b e : ℕ} → SecondHolder img b e → 1 < held img b
unfolding held
holder_twice {img} {b} {e} h =
    let apart : h.first ≡ e → ⊥ = λ same. omega (arith, same, h.before) in
    let both =
    total_two (λ i. count b (blocks_at img (geometry_of img) i)) h.first e 0 (slots (geometry_of img)) apart
    (omega arith) (omega (arith, h.before, h.inside)) (omega arith) (omega (arith, h.inside)) in
    omega (arith, both, h.reaches, h.too)

pub second_is : {img : List ℕ} {b e : ℕ} → ((f : ℕ) → f < slots (geometry_of img) → count b (blocks_at img (geometry_of img) f) ≤ 1) → SecondHolder img b e
    → e ≡ second img b
second_is {img} {b} once h = holder_one h (second_holder img b once (holder_twice h))

-- where the rules of the entries hold
pub entries_second : {img : List ℕ} {b : ℕ} → ((e : ℕ) → e < slots (geometry_of img) → AllHold img (entry_order img e)) → 1 < held img b
    → SecondHolder img b (second img b)
entries_second {img} {b} entries twice = second_holder img b (λ e inside. (entry_fine img e (entries e inside)).once b) twice
