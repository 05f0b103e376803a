-- Which form is known, its numbers, and what the numbers of any form are bounded by: the only laws that open a form's numbers.
use Prim.Native.Nat.{ℕ, ◌+◌, ◌*◌, ◌≤◌, ◌<◌}
use mathlib.Core.Bool.{Bool, true, false, cond}
use mathlib.Core.Path.{◌≡◌, refl, ap}
use native.Mathlib.Omega.{arith}
use lib.Dec.{eqb}
use borrow.Author.Tests.{eqb-true}
use Rattle.pack.specs.GeometrySized.{most_blocks, most_segments, most_contents}
use Rattle.pack.specs.Form.{segments_of, most_blocks_of, most_contents_of, most_uics_of, bodies_of}

-- "word 0 is 1"; 02 §7: "word 0 is 2"; 02 §11: "word 0 is 3"; no other form is known
pub data Known : ℕ → Type 0 where
  form_1 : Known 1
  form_2 : Known 2
  form_3 : Known 3

pub form_known : (form : ℕ) → 0 < segments_of form → Known form
unfolding segments_of
form_known form known = one (eqb form 1) (eqb form 2) (eqb form 3) refl refl refl known
  where
    one : (a b c : Bool) → eqb form 1 ≡ a → eqb form 2 ≡ b → eqb form 3 ≡ c → 0 < cond a 4 (cond b 4 (cond c 1 0)) → Known form
    one true b c is other third h = rw (eqb-true form 1 is) form_1
    one false true c other is third h = rw (eqb-true form 2 is) form_2
    one false false true other second is h = rw (eqb-true form 3 is) form_3
    one false false false other second is h = absurd (omega arith)

-- the numbers of document 01's form
pub document_segments : segments_of 1 ≡ 4
unfolding segments_of
document_segments = refl

pub document_uics : most_uics_of 1 ≡ 64
unfolding most_uics_of
document_uics = refl

-- those of the form with a map (02 §7)
pub mapped_segments : segments_of 2 ≡ 4
unfolding segments_of
mapped_segments = refl

pub mapped_uics : most_uics_of 2 ≡ 64
unfolding most_uics_of
mapped_uics = refl

pub mapped_bodies : (contents : ℕ) → bodies_of 2 contents ≡ contents + 2
unfolding bodies_of
mapped_bodies contents = refl

-- those of the 64-word disk (02 §11)
pub disk_segments : segments_of 3 ≡ 1
unfolding segments_of
disk_segments = refl

pub disk_uics : most_uics_of 3 ≡ 60
unfolding most_uics_of
disk_uics = refl

pub segments_few : (form : ℕ) → segments_of form ≤ most_segments
unfolding segments_of
segments_few form = few (eqb form 1) (eqb form 2) (eqb form 3)
  where
    few : (a b c : Bool) → cond a 4 (cond b 4 (cond c 1 0)) ≤ most_segments
    few true b c = omega arith
    few false true c = omega arith
    few false false true = omega arith
    few false false false = omega arith

-- a form that is known is a word
pub form_small : (form : ℕ) → 0 < segments_of form → form < 65536
form_small form known = small (form_known form known)
  where
    small : {f : ℕ} → Known f → f < 65536
    small form_1 = omega arith
    small form_2 = omega arith
    small form_3 = omega arith

pub blocks_most : (form : ℕ) → most_blocks_of form ≤ most_blocks
unfolding most_blocks_of
blocks_most form = few (eqb form 2)
  where
    few : (a : Bool) → cond a 4096 1024 ≤ most_blocks
    few true = omega arith
    few false = omega arith

pub contents_most : (form : ℕ) → most_contents_of form ≤ most_contents
unfolding most_contents_of
contents_most form = few (eqb form 1)
  where
    few : (a : Bool) → cond a 8 32 ≤ most_contents
    few true = omega arith
    few false = omega arith

-- the contents lie before the bodies
pub contents_before : (form contents : ℕ) → contents < bodies_of form contents
unfolding bodies_of
contents_before form contents = before (eqb form 2)
  where
    before : (a : Bool) → contents < contents + cond a 2 1
    before true = omega arith
    before false = omega arith

-- a block has a bit for each block of the pack
pub map_fits : (form : ℕ) → 0 < segments_of form → most_blocks_of form ≤ 16 * (64 * segments_of form)
unfolding most_blocks_of
map_fits form known = fits form (form_known form known)
  where
    fits : (f : ℕ) → Known f → cond (eqb f 2) 4096 1024 ≤ 16 * (64 * segments_of f)
    fits f form_1 = omega (arith, document_segments)
    fits f form_2 = omega (arith, mapped_segments)
    fits f form_3 = omega (arith, disk_segments)

-- an image of at most 524,288 bytes has at most 1,024 blocks: so many of 512 bytes, and of smaller ones no pack has more
pub blocks_many : (form blocks : ℕ) → 0 < segments_of form → blocks ≤ most_blocks_of form → blocks * (128 * segments_of form) ≤ 524288 → blocks ≤ 1024
unfolding most_blocks_of
blocks_many form blocks known most short = many form (form_known form known) most short
  where
    many : (f : ℕ) → Known f → blocks ≤ cond (eqb f 2) 4096 1024 → blocks * (128 * segments_of f) ≤ 524288 → blocks ≤ 1024
    many f form_1 few small = few
    many f form_2 few small = omega (arith, ap (λ (s : ℕ). blocks * (128 * s)) mapped_segments, small)
    many f form_3 few small = few

-- the list of UICs fits into block 0
pub uics_fit : (form uics : ℕ) → 0 < segments_of form → uics ≤ most_uics_of form → 4 + uics ≤ 64 * segments_of form
uics_fit form uics known few = fit form (form_known form known) few
  where
    fit : (f : ℕ) → Known f → uics ≤ most_uics_of f → 4 + uics ≤ 64 * segments_of f
    fit f form_1 most = omega (arith, document_segments, document_uics)
    fit f form_2 most = omega (arith, mapped_segments, mapped_uics)
    fit f form_3 most = omega (arith, disk_segments, disk_uics)
