-- A slice that was lent for writing is lent on for one call, and taken back behind it with what the call wrote. Nothing here is about records.
--     Kept       what its holder has meanwhile: the borrow, open, and both halves of the ghost variable that says what stands in the slice
--     LentOn     that, and the part of the lender, which gets the memory back when the call's lifetime is over
use mathlib.Core.Path.{◌≡◌, sym, ap, subst}
use Prim.Native.Nat.{ℕ}
use mathlib.Core.List.{List, [], ◌∷◌}
use lib.ListN.{length}
use seplogic.Ra.Ura.{Ura}
use base.Fraction.{full_share}
use mir.Syntax.{Lifetime}
use mir.Val.{Val}
use base.Logic.{ent, sep, ex}
use base.Fml.{Lft, GName, Share, Fml, fsep, flft, fdead, fobs, fauth, flent, fobor}
use types.Logic.{Logic, sem}
use types.Kit.{‵, ◌⊛◌, some, later, ◌$◌, ◌∵◌, !, qed, move, use1, use3, drop, split, pick, fsplit, fjoin, frame, await, updating, now as at_once, show, done}
use types.SemTy.{cells, Arr}
use denote.RattleType.{RattleType}
use denote.Shadow.{pure_l, pure_i}
use denote.Memory.{mem}
use denote.Ref.{MutBor}
use denote.Slice.{slice_val, MutSlice, heres, Room, finally, mut_slice_at, coded_holeys}
use denote.Lend.{Held, lends_slice, slice_back}
use denote.Index.{row, whole_out, whole_in, opens_slice, closes_slice}

module _ (element : RattleType) (outer inner : Lft) (share : Share) (name : GName) (block offset : ℕ) where
  -- the slice with these elements, known by a ghost variable
  abbrev slice : GName → List element.Denot → MutBor (List element.Denot)
  slice known elements = record { ref_ptr = (block, offset); ghost_name = known; now = elements }

  abbrev Kept : List element.Denot → Fml
  Kept elements =
      fsep (fobor outer share (Held element (length elements) block offset name))
      (fsep (fobs name ((coded_holeys element).code (heres element elements))) (fauth name ((coded_holeys element).code (heres element elements))))

  abbrev pub LentOn : GName → List element.Denot → Fml
  LentOn other elements = fsep (Kept elements) (flent inner (Held element (length elements) block offset other))

  module _ {M : Type 1} {𝓤 : Ura M} (𝓛 : Logic 𝓤) (before within : Lifetime) (elements : List element.Denot) where
    open 𝓛 use {H, A}

    abbrev machine : List Val
    machine = slice_val (block, offset) (length elements) ∷ []

    abbrev Mine : List element.Denot → Fml
    Mine these = (MutSlice before outer element).own_val (slice name these) machine

    abbrev Theirs : GName → Fml
    Theirs other = (MutSlice within inner element).own_val (slice other elements) machine

    -- the slice with a share of its lifetime becomes one for the inner lifetime, under some other name
    pub lends_on : ent 𝓤 (sep 𝓤 (sem 𝓛 (Mine elements)) (A.lft outer share))
        (H.⇛ (ex 𝓤 (λ (other : GName). sep 𝓤 (sem 𝓛 (Theirs other)) (sem 𝓛 (LentOn other elements)))))
    lends_on =
        qed 𝓛 (‵ (Mine elements) ∷ ‵ (flft outer share) ∷ []) ∵ updating ! $ fsplit ! $
        pure_l ! (mut_slice_at element (slice name elements) machine) (λ stands. fsplit ! $
        opens_slice ! tt element elements block offset $
        use1 𝓛 (‵ (cells (mem element) elements block offset)) (whole_in 𝓛 element elements block offset) $
        use1 𝓛 (later (some (λ (other : GName). ‵ (Theirs other) ⊛ ‵ (flent inner (Held element (length elements) block offset other)))))
        (lends_slice 𝓛 element within inner elements block offset stands.1) $ await ! tt $ pick ! (λ other. split ! $
        at_once ! $ show ! (λ (δ : GName). sep 𝓤 (sem 𝓛 (Theirs δ)) (sem 𝓛 (LentOn δ elements))) other $ frame ! $
        -- the lender's part, the borrow, and the two halves: the halves are joined, then the borrow before them, then the lender's part behind
        move ! (2 ∷ 3 ∷ []) $ fjoin ! $ move ! (2 ∷ 0 ∷ []) $ fjoin ! $ fjoin ! $ done !))

    -- when the inner lifetime is over, with what the call left in the slice, it is the holder's again
    pub taken_back : (other : GName) (left : List element.Denot) → Room element (length elements) → length left ≡ length elements
        → ent 𝓤 (sep 𝓤 (A.dead inner) (sep 𝓤 (sem 𝓛 (LentOn other elements)) (sem 𝓛 (finally element other left))))
        (H.⇛ (sep 𝓤 (sem 𝓛 (Mine left)) (A.lft outer share)))
    taken_back other left room same =
        qed 𝓛 (‵ (fdead inner) ∷ ‵ (LentOn other elements) ∷ ‵ (finally element other left) ∷ []) ∵ updating ! $
        -- what is kept stands last, while the memory is had back
        move ! (1 ∷ []) $ fsplit ! $ move ! (2 ∷ 1 ∷ 3 ∷ []) $
        use3 𝓛 (later (‵ ((Arr (mem element) (length elements)).own_at left block offset)))
        (slice_back 𝓛 element inner other left (length elements) block offset) $ await ! tt $ fsplit ! $ drop ! $
        use1 𝓛 (‵ (row element full_share left block offset)) (whole_out 𝓛 element left block offset) $
        move ! (1 ∷ []) $ fsplit ! $ move ! (1 ∷ []) $ fsplit ! $ move ! (3 ∷ 2 ∷ 0 ∷ 1 ∷ []) $
        closes_slice ! tt element elements left same block offset $ at_once ! $ fjoin ! $
        pure_i ! (mut_slice_at element (slice name left) machine) (tt, (tt, tt))
        (ap (λ (m : ℕ). slice_val (block, offset) m ∷ []) (sym same), subst (Room element) (sym same) room) $ fjoin ! $ done !
