-- What a partition alone counts: no more steps than ticks, and no more lost ticks than a frame for each tick.
use Rattle.std.proofs.Common.{ℕ, zero, suc, ◌+◌, ◌≤◌, List, Option, arith}
use Rattle.ptk_words.specs.declared.sections.Arrival.{Arrival}
use Rattle.ptk_words.specs.declared.sections.Limits.{Limits}
use Rattle.ptk_words_model.specs.Windows.{WindowPlan, IsPlan, own_ticks}
use Rattle.ptk_words_model.proofs.OwnLaws.{window_whole}
use Rattle.ptk_words_model.specs.Run.{alone, start}
use Rattle.ptk_system_machine.specs.Accounts.{IsBehind}
use Rattle.ptk_system_machine.proofs.Behind.{next_active, until_behind}

-- so many ticks are behind a partition alone
pub alone_behind : (plan : WindowPlan) (p : ℕ) (limits : Limits) (image : Option (List ℕ)) (input : List Arrival) (n : ℕ) → IsPlan plan → plan.frame ≤ 1000000
    → IsBehind n (alone (own_ticks plan p) limits image input n)
alone_behind plan p limits image input zero is frame =
    record { steps = omega arith; lost = omega arith; active = next_active (own_ticks plan p) (start (own_ticks plan p) limits image input).part.status 0 }
alone_behind plan p limits image input (suc n) is frame =
    until_behind (own_ticks plan p) limits n ((own_ticks plan p).end_at n) (alone (own_ticks plan p) limits image input n)
    (λ end e. let within : end ≤ n + plan.frame = (window_whole plan p n end is e).1 in omega arith)
    (alone_behind plan p limits image input n is frame)
