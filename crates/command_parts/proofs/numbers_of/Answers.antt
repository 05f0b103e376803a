-- Rests on `numbers_in` alone: each part that is absent is read as one whose numbers are 0.
use mathlib.Core.Path.{◌≡◌}
use Rattle.std.proofs.Common.{rules, Option, Some, None, unwrap_or}
use Rattle.std.specs.Option.{UnwrapsOrElse}
use Rattle.command_parts.specs.Made.{device_numbers, file_numbers, uic_numbers, numbers_in}
use Rattle.command_parts.proofs.numbers_of.Goals as goal

unwrapped : {A : Type 0} (part : Option A) (zero : A) {P : A → Type 0} {read : A} → UnwrapsOrElse part P read → ((x : A) → P x → x ≡ zero) → read ≡ unwrap_or part zero
unwrapped None zero is only = only _ is
unwrapped (Some x) zero is only = is

pub returns : goal.returns
unfolding numbers_in
returns c =
    let d : c.unwrap_or_default-word.result ≡ device_numbers c.args.device =
    unwrapped c.args.device (record { word = 0; unit = 0 }) c.unwrap_or_default-word.ensures (λ x is. search rules) in
    let f : c.unwrap_or_default-name1.result ≡ file_numbers c.args.file =
    unwrapped c.args.file (record { name1 = 0; name2 = 0; extension = None }) c.unwrap_or_default-name1.ensures (λ x is. search rules) in
    let u : c.unwrap_or_default-group.result ≡ uic_numbers c.args.uic =
    unwrapped c.args.uic (record { group = 0; user = 0 }) c.unwrap_or_default-group.ensures (λ x is. search rules) in
    rw (c.present_bits.ensures, c.unwrap_or.ensures, c.is_some.ensures, c.is_some-2.ensures, c.is_some-3.ensures, c.is_some-4.ensures, d, f, u)
