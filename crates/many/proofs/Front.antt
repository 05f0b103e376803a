-- A local array of n plain values, of which the first k are lent as a `&ν [T]` for a call, and which comes back. It says nothing of the crate.
--     lends_front      given `Room` and that the array's machine value is v:
--                      the array's cell ∗ [ν]  ⊢ ⇛ ∃ γ. own (the `&ν [T]` ((b, o), γ, take k xs)) [the struct of (b, o) and k] ∗ [ν] ∗ the lender's part
--     front_back       [†ν] ∗ the lender's part  ⊢ ⇛ ∃ u. the array's cell, at u
-- T is plain data: its relation makes what it owns, it is Copy, and it has one machine value (`Borrow/Table/Copies.antt`'s `c_struct` is the `Cp` of a declared struct).
-- Assumes `Logic`.
use mathlib.Core.Path.{◌≡◌, refl, sym, ap}
use Prim.Native.Nat.{ℕ, ◌≤◌}
use mathlib.Core.List.{List, [], ◌∷◌}
use lib.ListN.{length, take}
use seplogic.Ra.Ura.{Ura}
use base.Fraction.{full_share}
use mir.Syntax.{Lifetime, Ty, ty_array, erased}
use mir.Val.{Val}
use base.Logic.{ent, sep, ex}
use base.Fml.{Lft, GName, Fml, Incl-refl, fsep, fat, flft, fdead, flent}
use types.Logic.{Logic, sem}
use types.Kit.{‵, ◌⊛◌, later, ◌$◌, ◌∵◌, !, qed, move, use1, use2, split, rewrite, keep, by, fsplit, fjoin, fpick, fpack, feq_l, feq_i, frame, await, updating}
use types.Kit.{now as at_once, show, done}
use types.Share.{arr_parts}
use types.Tokens.{lent_back}
use denote.RattleType.{RattleType}
use denote.Laws.{Is, Makes}
use denote.Memory.{cell_at, part_at, lone, shares, part_of}
use denote.Array.{Array, array_val, Array-Makes}
use denote.ArrayMemory.{Single, Array-apart, Array-whole}
use denote.Ref.{Bor}
use denote.Slice.{slice_val, ShrSlice, Room}
use denote.Steps.{owned}
use lib.Seq.{length-take-le}
use borrow.Table.Copies.{Cp}
use borrow.Table.Owned as O
use borrow.Rule.Slice.Prefix.{shs_prefix_same}

module _ (R : RattleType) (n : ℕ) (b o : ℕ) where
  abbrev τ : Ty
  τ = ty_array (lone R.mir) n

  -- the lender's part
  abbrev pub LentFront : Lft → List R.Denot → Fml
  LentFront ν xs = flent ν ((arr_parts (shares R) (length xs)).part full_share xs b o)

  abbrev pub front : GName → List R.Denot → Bor (List R.Denot)
  front γ ys = record { ref_ptr = (b, o); now = ys }

  module _ {M : Type 1} {𝓤 : Ura M} (𝓛 : Logic 𝓤) (one : Single R.mir) (mk : Makes 𝓛 R (Is R)) (c : Cp R) where
    -- the array's cell is its elements, side by side
    open 𝓛 use {H, A}

    apart : (xs : List R.Denot) (v : Val) → Is (Array R n) xs (v ∷ []) → ent 𝓤 (H.at full_share τ b o v) (sem 𝓛 ((arr_parts (shares R) n).part full_share xs b o))
    unfolding part_of
    apart xs v p =
        qed 𝓛 (‵ (fat full_share τ b o v) ∷ []) ∵ use1 𝓛 (‵ (cell_at full_share (Array R n).mir (v ∷ []) b o)) (𝓛.laws.at_raw full_share τ b o v) $
        owned ! (Array R n) (Is (Array R n)) (Array-Makes 𝓛 R mk n) xs (v ∷ []) p $ move ! (1 ∷ 0 ∷ []) $ fjoin ! $
        fpack ! (List Val) (λ us. fsep (cell_at full_share (Array R n).mir us b o) ((Array R n).own_val xs us)) (v ∷ []) $
        use1 𝓛 (‵ ((arr_parts (shares R) n).part full_share xs b o)) (Array-apart 𝓛 R full_share one n xs b o) $ done !

    whole : (xs : List R.Denot) → ent 𝓤 (sem 𝓛 ((arr_parts (shares R) n).part full_share xs b o)) (ex 𝓤 (λ (u : Val). H.at full_share τ b o u))
    unfolding part_of
    whole xs =
        qed 𝓛 (‵ ((arr_parts (shares R) n).part full_share xs b o) ∷ []) ∵ use1 𝓛 (‵ (part_at (Array R n) full_share xs b o)) (Array-whole 𝓛 R full_share n xs b o) $
        fpick ! (λ vs. fsplit ! $ move ! (1 ∷ []) $ fpick ! (λ us. fsplit ! $ fsplit ! $ feq_l ! (λ e. move ! (2 ∷ []) $
        rewrite ! 0 (λ (ws : List Val). ‵ (cell_at full_share (τ ∷ []) ws b o)) e refl $
        use1 𝓛 (‵ (fat full_share τ b o (array_val us))) (𝓛.laws.raw_at full_share τ b o (array_val us)) $ show ! (λ (u : Val). H.at full_share τ b o u) (array_val us) $
        keep ! (0 ∷ []) $ done !)))

    pub lends_front : (ℓ : Lifetime) (ν : Lft) (xs : List R.Denot) (v : Val) (k : ℕ) → Is (Array R n) xs (v ∷ []) → Room R (length xs) → k ≤ length xs
        → ent 𝓤 (sep 𝓤 (H.at full_share τ b o v) (A.lft ν full_share))
        (H.⇛ (ex 𝓤 (λ (γ : GName). sep 𝓤 (sem 𝓛 ((ShrSlice ℓ ν R).own_val (front γ (take k xs)) (slice_val (b, o) k ∷ [])))
        (sep 𝓤 (A.lft ν full_share) (sem 𝓛 (LentFront ν xs))))))
    lends_front ℓ ν xs v k p room few =
        qed 𝓛 (‵ (fat full_share τ b o v) ∷ ‵ (flft ν full_share) ∷ []) ∵ updating ! $ use1 𝓛 (‵ ((arr_parts (shares R) n).part full_share xs b o)) (apart xs v p) $
        rewrite ! 0 (λ (m : ℕ). ‵ ((arr_parts (shares R) m).part full_share xs b o)) (sym p.1.0.1) refl $
        -- the token is ν's own: the elements are shared out with it, and it comes back
        use2 𝓛 (later ((‵ ((O.ShrSlice erased ν R).own_val (front 0 xs)) ⊛ ‵ (LentFront ν xs)) ⊛ ‵ (flft ν full_share)))
        (O.lends_shr_slice 𝓛 R erased ν full_share xs b o room ν ((c.copied 𝓛).shares full_share ν) ((ν, full_share) ∷ []) (Incl-refl ν) (Incl-refl ν)) $ await ! tt
        $ split ! $ split ! $ move ! (0 ∷ 2 ∷ []) $
        use2 𝓛 (later (‵ ((O.ShrSlice erased ν R).own_val (front 0 (take k xs))) ⊛ ‵ (flft ν full_share)))
        (shs_prefix_same 𝓛 R ν full_share b o xs k) $ await ! tt $ split ! $
        -- no shared slice has a ghost name, so any will do
        at_once ! $ show ! (λ (δ : GName). sep 𝓤 (sem 𝓛 ((ShrSlice ℓ ν R).own_val (front δ (take k xs)) (slice_val (b, o) k ∷ [])))
        (sep 𝓤 (A.lft ν full_share) (sem 𝓛 (LentFront ν xs)))) 0 $
        fsplit ! $ feq_i ! (List Val) (slice_val (b, o) k ∷ []) (slice_val (b, o) (length (take k xs)) ∷ []) (ap (λ (m : ℕ). slice_val (b, o) m ∷ []) (sym (length-take-le k xs few))) $
        fjoin ! $ fjoin ! $ frame ! $ done !

    pub front_back : (ν : Lft) (xs : List R.Denot) → length xs ≡ n
        → ent 𝓤 (sep 𝓤 (A.dead ν) (sem 𝓛 (LentFront ν xs))) (H.⇛ (ex 𝓤 (λ (u : Val). H.at full_share τ b o u)))
    front_back ν xs e =
        qed 𝓛 (‵ (fdead ν) ∷ ‵ (LentFront ν xs) ∷ []) ∵ updating ! $ lent_back ! tt $ rewrite ! 0 (λ (m : ℕ). ‵ ((arr_parts (shares R) m).part full_share xs b o)) e refl $
        at_once ! $ by ! (whole xs)
