use Rattle.ptk_clock.proofs.Expiries.{next-due}
use Rattle.ptk_clock.proofs.laws.due_by_slot.Goals as goal

pub returns : goal.returns
returns c = λ first last n now pairs order end. next-due first last n now pairs order end
