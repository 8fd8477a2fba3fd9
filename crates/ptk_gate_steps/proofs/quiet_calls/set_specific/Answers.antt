use Rattle.std.proofs.Common.{rules}
use Rattle.ptk_gate_steps.proofs.RepliesPut.{set_made}
use Rattle.ptk_gate_steps.proofs.quiet_calls.set_specific.Goals as goal

pub returns : goal.returns
returns c = λ e. set_made c.args.t c.new-key.result c.register-value.result c.args.cpu.now c.set_register.new.self c.args.pools.now c.set_value.new.self e (search rules) (search rules) (search rules) (search rules) (search rules)
