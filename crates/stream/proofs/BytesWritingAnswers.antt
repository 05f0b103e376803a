-- What an answer of the stage of writing comes to: that the bytes can be laid, and the code, the numbers, the image and the gather buffer of the request.
use Prim.Native.Nat.{ℕ, ◌<◌}
use mathlib.Core.Path.{◌≡◌, sym, ap, subst, ◌∙◌}
use mathlib.Core.Bool.{Bool, ◌||◌}
use mathlib.Core.List.{List, []}
use lib.ListN.{length}
use Rattle.answers.specs.Refusals.{first_of}
use Rattle.pack.specs.declared.Geometry.{Geometry}
use Rattle.pack.specs.declared.Entry.{Entry}
use Rattle.pack.specs.declared.Key.{Key}
use Rattle.pack.specs.Geometry.{geometry_of, payload_bytes}
use Rattle.consistency.specs.Mapped.{Mapped, MappedIf}
use Rattle.asking.specs.AskedStage.{Asked, File, Refused}
use Rattle.asking.specs.Outcome.{Outcome, zeroed}
use Rattle.asking.specs.AskedStage.{stage_of}
use Rattle.asking.proofs.Outcome.{settled_refused, settled_success}
use Rattle.asking.proofs.AskedStage.{Given, stage_is_refused, stage_is_file}
use Rattle.adding.proofs.LinkedAddStage.{linked_add_clear}
use Rattle.stream.specs.declared.Filling.{Filling}
use Rattle.stream.specs.Gather.{gathered}
use Rattle.stream.specs.Filling.{Writing, Writable, Written, written, Laying}
use Rattle.stream.proofs.FillingSteps.{writing_start}
use Rattle.stream.proofs.FillingLoop.{writing_alone, laying_done, laying_mapped}
use Rattle.stream.specs.BytesWriting.{wrong_gather, gathered_in, writing_rows, bytes_written}
use Rattle.stream.proofs.BytesWritingStage.{Fitting, argument_fits}

-- how a write begins: no block from the end of the pack on is free
abbrev pub from_start : Geometry → ℕ → Filling
from_start g filled = record { filled = filled; from = record { 0 = g.blocks } }

module _ (img : List ℕ) (key : Key) (caller : ℕ) (wrong : Bool) (gather : List ℕ) (filled : ℕ) (put : List ℕ) where
  pub write_fitting : first_of (writing_rows img key caller wrong gather filled put) ≡ 0 → Fitting img wrong gather filled
  write_fitting passed =
      argument_fits img wrong gather filled
      (linked_add_clear img key caller (wrong_gather img gather filled || wrong) (length (gathered_in img gather filled put).full) passed).0.file.argument

  module _ (numbers : List ℕ) {asked : Asked} (is : asked ≡ stage_of (writing_rows img key caller wrong gather filled put) img key) where
    abbrev outcome : Outcome
    outcome = bytes_written img key caller wrong gather filled put numbers

    pub write_denied : {code : ℕ} → asked ≡ Refused code
        → (code ≡ outcome.code) × ((zeroed numbers ≡ outcome.numbers) × ((img ≡ outcome.image) × (gather ≡ outcome.buffer)))
    unfolding bytes_written
    write_denied {code} told =
        let r = stage_is_refused (writing_rows img key caller wrong gather filled put) img key code (sym is ∙ told) in
        let o = sym (settled_refused (writing_rows img key caller wrong gather filled put) img gather _ r.first r.not_zero) in
        (ap (λ (p : Outcome). p.code) o, (ap (λ (p : Outcome). p.numbers) o, (ap (λ (p : Outcome). p.image) o, ap (λ (p : Outcome). p.buffer) o)))

    -- the file is given: so many blocks are free as the bytes will fill
    module _ {g : Geometry} {e : ℕ} {x : Entry} (told : asked ≡ File g e x) where
      given : Given (writing_rows img key caller wrong gather filled put) img key g e x
      given = stage_is_file (writing_rows img key caller wrong gather filled put) img key g e x (sym is ∙ told)

      module _ (map : List ℕ) (mapped : MappedIf map img) where
        begun : Writing key caller img map g e gather (from_start g filled) put
        begun =
            let f = write_fitting given.clear in
            writing_start (wrong_gather img gather filled || wrong) (length (gathered_in img gather filled put).full) filled put given
            (ap (λ (h : Geometry). length (gathered (payload_bytes h) gather filled put).full) given.measures)
            (subst (λ (h : Geometry). filled < payload_bytes h) given.measures f.room) (f.whole ∙ ap payload_bytes given.measures) mapped

        pub write_begun : Writable img map g e gather (from_start g filled) put
        write_begun = writing_alone begun

        -- all bytes are laid
        module _ {img' map' gather' : List ℕ} {at : Filling} (laying : Laying g e img map gather (from_start g filled) put img' map' gather' at []) where
          came : written key caller (payload_bytes (geometry_of img)) img gather filled put ≡ record { image = img'; buffer = gather'; filled = at.filled }
          came = ap (λ (h : Geometry). written key caller (payload_bytes h) img gather filled put) given.measures ∙ laying_done begun laying

          pub write_mapped : Mapped map' img'
          write_mapped = laying_mapped begun laying

          pub write_filled : at.filled ≡ (gathered_in img gather filled put).filled
          unfolding written
          write_filled = sym (ap (λ (w : Written). w.filled) came)

          pub write_done : (0 ≡ outcome.code) × ((numbers ≡ outcome.numbers) × ((img' ≡ outcome.image) × (gather' ≡ outcome.buffer)))
          unfolding bytes_written written
          write_done =
              let o = sym (settled_success (writing_rows img key caller wrong gather filled put) img gather _ given.clear) in (
                ap (λ (p : Outcome). p.code) o,
                (
                  ap (λ (p : Outcome). p.numbers) o,
                  (
                    sym (ap (λ (w : Written). w.image) came) ∙ ap (λ (p : Outcome). p.image) o,
                    sym (ap (λ (w : Written). w.buffer) came) ∙ ap (λ (p : Outcome). p.buffer) o,
                  ),
                ),
              )
