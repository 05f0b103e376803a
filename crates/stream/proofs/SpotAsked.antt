-- A linked file that a stage gave: what locating a position in its payloads asks for.
use Prim.Native.Nat.{ℕ, ◌+◌, ◌*◌, ◌≤◌, ◌<◌}
use mathlib.Core.Path.{◌≡◌, sym, ap, subst, ◌∙◌}
use mathlib.Core.Bool.{Bool}
use mathlib.Core.List.{List}
use native.Mathlib.Omega.{arith}
use borrow.Author.Tests.{ne_eqb}
use Rattle.pack.specs.declared.Geometry.{Geometry}
use Rattle.pack.specs.declared.Entry.{Entry}
use Rattle.pack.specs.declared.Key.{Key}
use Rattle.pack.specs.GeometrySized.{most_segments, Sized}
use Rattle.pack.specs.Geometry.{payload_bytes, slots}
use Rattle.pack.specs.File.{blocks_of, count}
use Rattle.pack.specs.Entry.{entry_of}
use Rattle.pack.specs.Key.{key_in, SameKey}
use Rattle.owners.proofs.OwnerSearch.{measured_sized, measured_blocks}
use Rattle.asking.proofs.Keys.{not_empty}
use Rattle.asking.proofs.AskedStage.{FileAsked}
use Rattle.frame.proofs.FramedStays.{entries_at}
use Rattle.bodies.proofs.EntryChainLinked.{linked_kind}
use Rattle.adding.proofs.LinkedAddAnswers.{length_few}

module _ {img : List ℕ} {key : Key} {wrong : Bool} {g : Geometry} {e : ℕ} {x : Entry} (file : FileAsked img key wrong g e x) where
  -- what `bytes_in` asks
  pub asked_counted : (0 < g.segments.0) × (g.segments.0 ≤ most_segments) × (x.length < 65536)
  asked_counted =
      let sized : Sized img g = measured_sized file.right file.measures in
      let few : (entry_of img g e).length + 1 < 65536 =
      subst (λ (h : Geometry). (entry_of img h e).length + 1 < 65536) file.measures
      (length_few e file.right (subst (λ (h : Geometry). e < slots h) (sym file.measures) file.inside)) in
      (sized.some, sized.few, omega (arith, few, ap (λ (y : Entry). y.length) file.entry))

  module _ (other : x.kind ≡ 1 → ⊥) where
    pub asked_linked : x.kind ≡ 2
    asked_linked =
        let kind : x.kind ≡ (entry_of img g e).kind = ap (λ (y : Entry). y.kind) file.entry in
        kind
        ∙ linked_kind img g e (not_empty img g key e file.legal (subst (λ (y : Entry). SameKey (key_in y) key) file.entry file.keyed))
        (ne_eqb (entry_of img g e).kind 1 (λ is. other (kind ∙ is))) (entries_at img g (sym file.measures) file.right e file.inside)

    -- what `locate` asks
    pub asked_locate : (position : ℕ) → position ≤ x.length * payload_bytes g
        → Sized img g
        × (((z : ℕ) → 0 < count z (blocks_of img g x) → z < g.blocks)
        × ((x.kind ≡ 2) × (position ≤ x.length * payload_bytes g)))
    asked_locate position within =
        (measured_sized file.right file.measures, (measured_blocks file.right file.measures e file.inside x file.entry, (asked_linked, within)))
