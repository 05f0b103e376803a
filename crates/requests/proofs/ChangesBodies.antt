-- The requests that write more than entries change no other word: Format, ALLOC, APPND and BLOCK output.
use Prim.Native.Nat.{ℕ, ◌+◌, ◌-◌, ◌≤◌}
use mathlib.Core.Path.{◌≡◌, refl, sym, ap, ◌∙◌}
use mathlib.Core.Logic.{inl, inr}
use mathlib.Core.List.{List, []}
use native.Mathlib.Omega.{arith}
use lib.Dec.{eqb}
use lib.ListN.{length, get_or, drop}
use lib.Seq.{get_or-drop}
use Rattle.pack.specs.declared.Key.{Key}
use Rattle.pack.specs.Geometry.{geometry_of}
use Rattle.asking.specs.Asked.{entry_no, file_of}
use Rattle.asking.proofs.Outcome.{code_is}
use Rattle.bodies.specs.BlockBytes.{block_start}
use Rattle.bodies.proofs.BlockBytes.{room_of}
use Rattle.bodies.proofs.EntryChain.{changes_chain}
use Rattle.creation.specs.Creating.{entry_for}
use Rattle.creation.specs.Alloc.{start_for, alloc}
use Rattle.creation.proofs.AllocEffect.{alloc_words}
use Rattle.creation.specs.Format.{system_bytes, formatted, format}
use Rattle.creation.proofs.FormatBytes.{formatted_length, formatted_bodies}
use Rattle.creation.proofs.FormatRows.{test_formattable}
use Rattle.transfer.specs.Block.{block_at_place, block_out}
use Rattle.transfer.specs.BlockRows.{block_out_rows}
use Rattle.transfer.proofs.BlockWritten.{block_out_asked, block_out_fits}
use Rattle.appending.specs.AppndRows.{appnd_rows}
use Rattle.appending.specs.Appnd.{chain_joined, appnd}
use Rattle.requests.specs.Request.{FORMAT, ALLOC, APPND, BLOCK-OUTPUT}
use Rattle.requests.specs.Changes.{MayChange}
use Rattle.requests.proofs.RequestFormat.{format_by}
use Rattle.frame.specs.Framed.{ChangesOnly}
use Rattle.frame.proofs.ChangesWritten.{changes_nothing, changes_then, changes_either, changes_cleared, changes_part}
use Rattle.requests.proofs.ChangesWritten.{changes_settled}

pub format_changes : (img : List ℕ) (form blocks contents : ℕ) (uics : List ℕ)
    → ChangesOnly (MayChange (FORMAT form blocks contents uics) img) img (format img form blocks contents uics).image
format_changes img form blocks contents uics =
    format_by img form blocks contents uics (ChangesOnly (MayChange (FORMAT form blocks contents uics) img) img) changes_nothing
    (λ holds.
    let right = test_formattable (length img) form blocks contents uics holds in
    record {
      long = formatted_length img form blocks contents uics right;
      bytes = λ k never. behind k (formatted_bodies img form blocks contents uics right) (omega (arith, never));
    })
  where
    behind : (k : ℕ) → drop (system_bytes form contents) (formatted img form blocks contents uics) ≡ drop (system_bytes form contents) img
        → system_bytes form contents ≤ k → get_or (formatted img form blocks contents uics) k 0 ≡ get_or img k 0
    behind k same low =
        let place : system_bytes form contents + (k - system_bytes form contents) ≡ k = omega arith in
        ap (λ (i : ℕ). get_or (formatted img form blocks contents uics) i 0) (sym place)
        ∙ sym (get_or-drop (system_bytes form contents) (formatted img form blocks contents uics) (k - system_bytes form contents) 0)
        ∙ ap (λ (l : List ℕ). get_or l (k - system_bytes form contents) 0) same
        ∙ get_or-drop (system_bytes form contents) img (k - system_bytes form contents) 0
        ∙ ap (λ (i : ℕ). get_or img i 0) place

pub alloc_changes : (img : List ℕ) (key : Key) (caller protect segments : ℕ)
    → ChangesOnly (MayChange (ALLOC key caller protect segments) img) img (alloc img key caller protect segments).image
alloc_changes img key caller protect segments =
    alloc_words img key caller protect segments (λ a w at. inl (entry_for img, (a.ready.entry, at)))
    (λ a b w inside of. inr (start_for img segments, (a.extent, (b, (inside, of)))))

pub appnd_changes : (img : List ℕ) (first second : Key) (caller : ℕ)
    → ChangesOnly (MayChange (APPND first second caller) img) img (appnd img first second caller).image
unfolding appnd chain_joined
appnd_changes img first second caller =
    changes_settled (appnd_rows img first second caller) img [] _
    (λ clear. changes_then
    (changes_either (eqb (file_of img second).length 0) (λ nothing. changes_nothing)
    (λ more. changes_chain img (geometry_of img) (entry_no img first) (file_of img first) _ _ _ _ _ _ _
    (λ j low high. inl (omega arith, omega arith)) (λ some. inr (inr (some, refl)))))
    (changes_cleared _ (geometry_of img) (entry_no img second) (λ j small. inr (inl (omega arith, omega arith)))))

pub block_output_changes : (img : List ℕ) (key : Key) (caller place : ℕ) (buffer : List ℕ)
    → ChangesOnly (MayChange (BLOCK-OUTPUT key caller place buffer) img) img (block_out img key caller place buffer).image
unfolding block_out
block_output_changes img key caller place buffer =
    changes_settled (block_out_rows img key caller place buffer) img buffer _
    (λ clear.
    let success = code_is (block_out_rows img key caller place buffer) img buffer _ ∙ clear in
    let asked = block_out_asked img key caller place buffer success in
    let fits = block_out_fits img key caller place buffer success in
    changes_part img buffer (block_start (geometry_of img) (block_at_place (file_of img key) place))
    (omega (arith, fits, (room_of img (geometry_of img) (block_at_place (file_of img key) place) asked.sized asked.below).inside))
    (λ w low high. (omega arith, omega (arith, fits))))
