use Rattle.std.proofs.Common.{arith, ◌≡◌, ◌++◌, ℤ, ap, ◌∙◌, w64, to_z, of_z, to_z-of_z}
use Rattle.ptk_asm_language.specs.Statements.{instructions_of}
use Rattle.ptk_asm.specs.Emitting.{listed, data_bytes}
use Rattle.ptk_asm.proofs.FormBytes.{pushed_both, decode_written}
use Rattle.ptk_asm.proofs.emission.push_statement.Goals as goal

pub returns-clause-bytes : goal.returns-clause-bytes
returns-clause-bytes c =
    let same : to_z w64 (of_z w64 c.args.number) ≡ c.args.number = grind (arith, to_z-of_z) in
    pushed_both c.args.form c.args.registers.now c.args.number (listed c.instructions_of.result) c.args.out.now.items c.push_data.new.out.items c.push_instructions.new.out.items
    (c.instructions_of.ensures ∙ ap (λ (n : ℤ). instructions_of c.args.form c.args.registers.now n) same)
    (c.in_ok-push_data.ensures ∙ ap (λ (n : ℤ). c.args.out.now.items ++ data_bytes c.args.form n) same)
    c.in_ok-push_instructions.ensures.bytes

pub returns-clause-words : goal.returns-clause-words
returns-clause-words c other =
    let same : to_z w64 (of_z w64 c.args.number) ≡ c.args.number = grind (arith, to_z-of_z) in
    decode_written c.args.form c.args.registers.now c.args.number (listed c.instructions_of.result) other
    (c.instructions_of.ensures ∙ ap (λ (n : ℤ). instructions_of c.args.form c.args.registers.now n) same) c.in_ok-push_instructions.ensures.again
