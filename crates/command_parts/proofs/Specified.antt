-- The numbers of a specification, of those of its parts.
use Prim.Native.Nat.{ℕ}
use mathlib.Core.Path.{◌≡◌, refl, sym, ap, ◌∙◌, subst}
use mathlib.Core.List.{List}
use mathlib.Core.Option.{Option, none, some}
use lib.ListN.{length}
use Rattle.command_grammar.specs.Parsed.{Device, FileName, Uic, Switch, Specification}
use Rattle.command_grammar.specs.Reader.{Res, ok, no, from, Head, device, file, head, mk_head, mk_tail, mk_specification, specification}
use Rattle.command_grammar.proofs.ReaderPlaces.{seq_both}
use Rattle.command_cursor.specs.declared.Cursor.{Cursor}
use Rattle.command_parts.specs.CappedParts.{capped_device, capped_uic, capped_specification}
use Rattle.command_parts.specs.Numbers.{device_word, unit_of, extension_in, group_of, user_of, is_present, numbers_of}
use Rattle.command_parts.specs.Passed.{brackets, switches, tail}
use Rattle.command_parts.specs.Made.{device_part, extension_part, file_part, uic_part, device_found, file_found, uic_found, device_numbers, uic_numbers, numbers_in}
use Rattle.command_parts.specs.Specified.{with_switches, PartsAt}
use Rattle.command_parts.specs.declared.Numbers.{Numbers}
use Rattle.command_parts.specs.declared.reading.ReadAt.{ReadAt}
use Rattle.command_parts.specs.declared.reading.DeviceNumbers.{DeviceNumbers}
use Rattle.command_parts.specs.declared.reading.FileNumbers.{FileNumbers}
use Rattle.command_parts.specs.declared.reading.UicNumbers.{UicNumbers}
use Rattle.command_parts.proofs.MadeFront.{with_parts, without_parts}
use Rattle.std.specs.Prelude.{is_some, unwrap_or}

abbrev numbered : Option Device → Cursor → ReadAt DeviceNumbers
numbered d next = record { part = device_part d; next = next }

-- the numbers of each part, whether or not it is there

device_told : (d : Option Device) → (is_some (device_part d) ≡ is_present (capped_device d))
    × ((device_numbers (device_part d)).word ≡ device_word (capped_device d)) × ((device_numbers (device_part d)).unit ≡ unit_of (capped_device d))
device_told none = (refl, refl, refl)
device_told (some d) = (refl, refl, refl)

extension_told : (e : Option (List ℕ)) → (is_some (extension_part e) ≡ is_present e) × (unwrap_or (extension_part e) 0 ≡ extension_in e)
extension_told none = (refl, refl)
extension_told (some e) = (refl, refl)

uic_told : (u : Option Uic) → (is_some (uic_part u) ≡ is_present (capped_uic u))
    × ((uic_numbers (uic_part u)).group ≡ group_of (capped_uic u)) × ((uic_numbers (uic_part u)).user ≡ user_of (capped_uic u))
uic_told none = (refl, refl, refl)
uic_told (some u) = (refl, refl, refl)

numbers_told : (d : Option Device) (f : Option FileName) (u : Option Uic) (ws : List Switch)
    → with_switches (numbers_in (device_part d) (file_part f) (uic_part u)) (length ws) ≡ numbers_of (capped_specification (mk_specification (mk_head d f) (mk_tail u ws)))
unfolding numbers_in numbers_of
numbers_told d none u ws =
    let p = device_told d in
    let q = uic_told u in
    rw (p.0, p.1, p.2, q.0, q.1, q.2)
numbers_told d (some f) u ws =
    let p = device_told d in
    let q = uic_told u in
    let e = extension_told f.extension in
    rw (p.0, p.1, p.2, q.0, q.1, q.2, e.0, e.1)

module _ (s : List ℕ) (i : ℕ) (x : ReadAt DeviceNumbers) (device_is : x ≡ device_found i (from device s i)) where
  -- what was read at the front, whether or not a device stands there
  abbrev Front : Head → ℕ → Type 0
  Front h a = (from file s x.next.at ≡ ok h.file a) × (x ≡ numbered h.device x.next)

  told : {d : Option Device} {f : Option FileName} {h : Head} {next : Cursor} {a : ℕ} → h ≡ mk_head d f → x ≡ numbered d next → from file s next.at ≡ ok f a → Front h a
  told {d} {f} {next = next} whole is stands =
      let there : x.next ≡ next = ap (λ (n : ReadAt DeviceNumbers). n.next) is in
      rw whole (rw there stands, is ∙ ap (numbered d) (sym there))

  front_by : (r : Res Device) → from device s i ≡ r → {h : Head} {a : ℕ} → from head s i ≡ ok h a → Front h a
  unfolding device_found
  front_by (ok d e) here {a = a} front = let f = with_parts s i a here front in told {d = some d} f.2 (device_is ∙ ap (device_found i) here) f.1
  front_by (no p) here {a = a} front = let f = without_parts s i a here front in told {d = none} f.2 (device_is ∙ ap (device_found i) here) f.1

  module _ (y : ReadAt FileNumbers) (file-is : (f : Option FileName) (j : ℕ) → from file s x.next.at ≡ ok f j → y ≡ file_found f j)
      (z : ReadAt UicNumbers) (uic-is : (u : Option Uic) (j : ℕ) → from brackets s y.next.at ≡ ok u j → z ≡ uic_found u j)
      {numbers : Numbers} (numbers_is : numbers ≡ numbers_in x.part y.part z.part) where
    numbers_are : (h : Head) (u : Option Uic) (ws : List Switch) (a b : ℕ) → x ≡ numbered h.device x.next → y ≡ file_found h.file a → z ≡ uic_found u b
        → with_switches numbers (length ws) ≡ numbers_of (capped_specification (mk_specification h (mk_tail u ws)))
    unfolding file_found uic_found
    numbers_are h u ws a b p q r = rw (numbers_is, p, q, r) (numbers_told h.device h.file u ws)

    all_made : (v : Specification) (end : ℕ) → from specification s i ≡ ok v end
        → (with_switches numbers (length v.switches) ≡ numbers_of (capped_specification v)) × (from switches s z.next.at ≡ ok v.switches end)
    unfolding specification file_found uic_found
    all_made v end stands =
        let t = seq_both mk_specification head tail s i stands in
        let w = seq_both mk_tail brackets switches s t.1 t.4 in
        let whole : v ≡ mk_specification t.0 (mk_tail w.0 w.2) = t.5 ∙ ap (mk_specification t.0) w.5 in
        let front = front_by (from device s i) refl t.3 in
        let file_made = file-is t.0.file t.1 front.0 in
        let uic_made = uic-is w.0 w.1 (ap (λ (n : ReadAt FileNumbers). from brackets s n.next.at) file_made ∙ w.3) in (
          subst (λ (u : Specification). with_switches numbers (length u.switches) ≡ numbers_of (capped_specification u)) (sym whole)
              (numbers_are t.0 w.0 w.2 t.1 w.1 front.1 file_made uic_made),
          ap (λ (n : ReadAt UicNumbers). from switches s n.next.at) uic_made ∙ w.4 ∙ ap (λ (u : Specification). ok u.switches end) (sym whole),
        )

    pub parts_made : PartsAt s i (record { numbers = numbers; next = z.next })
    parts_made = record { numbers = λ v end stands. (all_made v end stands).0; behind = λ v end stands. (all_made v end stands).1 }
