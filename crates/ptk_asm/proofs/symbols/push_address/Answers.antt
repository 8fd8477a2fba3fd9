use Rattle.std.proofs.Common.{◌^◌, ◌-◌, false}
use Rattle.std.specs.Prelude.{string_bytes}
use Rattle.std.specs.Fmt.{digits, digits_output, shown_prefix, radix_prefix, padded_integral, format_spec}
use Rattle.std.proofs.lemmas.Result.{on_ok_weaker}
use Rattle.ptk_asm.specs.Symbols.{padded_hex}
use Rattle.ptk_asm.proofs.Hexadecimal.{hex-eight, shape-appended}
use Rattle.ptk_asm.proofs.symbols.push_address.Goals as goal

pub returns : goal.returns
returns c =
    on_ok_weaker c.write.result
    (shape-appended c.laid_out.result (format_spec 32 0 4 8 (2 ^ 64 - 1)) (λ s. padded_integral s false (shown_prefix s (radix_prefix c.in_radix.result.base)))
    (digits_output c.in_radix.result) (digits 16 false c.args.address) (padded_hex c.args.address) (string_bytes c.args.text.now) (string_bytes c.write.new.self)
    c.laid_out.ensures c.in_radix.ensures (hex-eight c.args.address))
    c.write.ensures.bytes
