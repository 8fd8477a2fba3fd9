use Rattle.std.proofs.Common.{rules}
use Rattle.ptk_kernel.proofs.Moves.{call_passed}
use Rattle.ptk_kernel.proofs.steps.make_call.Goals as goal

pub returns : goal.returns
returns c = search (rules, call_passed)
