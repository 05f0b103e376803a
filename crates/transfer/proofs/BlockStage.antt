-- BLOCK, input and output alike: the row of a place, the block of a contiguous file there, and what is known of it.
use Prim.Native.Nat.{ℕ, ◌≤◌, ◌<◌}
use mathlib.Core.Path.{◌≡◌, sym, ap, subst, ◌∙◌}
use mathlib.Core.Bool.{Bool, true}
use mathlib.Core.List.{List, [], ◌∷◌}
use mathlib.Core.Logic.{◌⊎◌, inl, inr}
use native.Mathlib.Omega.{arith}
use lib.Dec.{leb}
use borrow.Author.Tests.{lt-ltb, le-leb, lt-leb, leb-false}
use Rattle.answers.specs.Refusals.{row, first_of}
use Rattle.answers.proofs.Refusals.{refuse, pass, clear, none_given}
use Rattle.pack.specs.GeometrySized.{most_blocks, Sized}
use Rattle.pack.specs.declared.Geometry.{Geometry}
use Rattle.pack.specs.declared.Entry.{Entry}
use Rattle.pack.specs.declared.Key.{Key}
use Rattle.pack.specs.File.{next_of, blocks_of, count}
use Rattle.pack.specs.Entry.{entry_of, Contiguous, Linked, Used, RightEntry}
use Rattle.pack.proofs.EntryRead.{empty_length}
use Rattle.pack.proofs.FileChain.{next_contiguous}
use Rattle.frame.proofs.FileChainWays.{extent_inside}
use Rattle.frame.proofs.FramedStays.{entries_at}
use Rattle.owners.proofs.OwnerSearch.{measured_sized}
use Rattle.asking.specs.declared.Right.{Right}
use Rattle.asking.specs.Asked.{file_of}
use Rattle.asking.proofs.AskedStage.{FileAsked}
use Rattle.asking.proofs.AccessStage.{Reached}
use Rattle.transfer.specs.BlockRows.{open_for_input}
use Rattle.transfer.specs.Block.{block_at_place}

-- "a reader or writer 1": a reader is enough
pub open_reader : (x : Entry) → 0 < x.readers → true ≡ open_for_input x
open_reader x some = rw (lt-ltb 0 x.readers some)

-- "44: no such block in the file", of a file that was found
module _ {x y : Entry} (own : x ≡ y) {place : ℕ} where
  pub place_beyond : x.length ≤ place → first_of (row (leb y.length place) 0o44 ∷ []) ≡ 0o44
  place_beyond over = refuse [] (le-leb y.length place (omega (arith, ap (λ (z : Entry). z.length) own)))

  pub place_within : place < x.length → first_of (row (leb y.length place) 0o44 ∷ []) ≡ 0
  place_within inside = pass 0o44 [] (lt-leb y.length place (omega (arith, ap (λ (z : Entry). z.length) own))) ∙ clear

pub within_place : (size place : ℕ) → first_of (row (leb size place) 0o44 ∷ []) ≡ 0 → place < size
within_place size place none = leb-false size place (none_given (leb size place) 0o44 [] (λ is. omega (arith, is)) none).0

-- what is known of the file and of its block
pub record BlockAsked (img : List ℕ) (key : Key) (wrong : Bool) (g : Geometry) (e : ℕ) (x : Entry) (place : ℕ) : Type 0 where
  pub file : FileAsked img key wrong g e x
  pub own : x ≡ file_of img key
  pub sized : Sized img g
  pub used : Used img g e x
  pub contiguous : Contiguous x
  pub held : 0 < count (block_at_place x place) (blocks_of img g x)
  pub body : g.bodies.0 ≤ block_at_place x place
  pub below : block_at_place x place < g.blocks
  pub few : g.blocks ≤ most_blocks

pub block_asked : {img : List ℕ} {key : Key} {wrong : Bool} {caller : ℕ} {right : Right} {closed : Entry → Bool} {g : Geometry} {e : ℕ} {x : Entry} {place : ℕ}
    → Reached img key wrong caller right 2 closed g e x → place < x.length → BlockAsked img key wrong g e x place
unfolding blocks_of
block_asked {img} {key} {wrong} {caller} {right} {closed} {g} {e} {x} {place} reached inside =
    let f = reached.file in
    let sized = measured_sized f.right f.measures in
    let used = in_use (entries_at img g (sym f.measures) f.right e f.inside) f.entry in
    let rules = extent used used.kind in
    let held =
    extent_inside (next_of img g x.kind) (λ y. next_contiguous img g x.kind y rules.kind) (block_at_place x place) x.length x.first.0
    (omega arith) (omega (arith, inside)) in
    let bodies = used.bodies (block_at_place x place) (omega (arith, held)) in
    record {
      file = f;
      own = reached.entry;
      sized = sized;
      used = used;
      contiguous = rules;
      held = omega (arith, held);
      body = bodies.0;
      below = bodies.1;
      few = sized.most;
    }
  where
    in_use : RightEntry img g e → x ≡ entry_of img g e → Used img g e x
    in_use (inl empty) is = absurd (omega (arith, inside, empty_length img g e empty, ap (λ (y : Entry). y.length) is))
    in_use (inr used) is = subst (Used img g e) (sym is) used

    extent : Used img g e x → Contiguous x ⊎ Linked img g x → Contiguous x
    extent used (inl rules) = rules
    extent used (inr rules) = absurd (reached.access.kind rules.kind)
