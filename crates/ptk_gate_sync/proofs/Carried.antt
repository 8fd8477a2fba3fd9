-- Calls made of several moves of the part in hand.
use Rattle.std.proofs.Common.{◌≡◌, Result, Ok, Err, sym, ◌∙◌, ap}
use Rattle.std.specs.Prelude.{IsErrAnd}
use Rattle.ptk_words.specs.declared.faults.Errno.{Errno}
use Rattle.ptk_words_model.specs.declared.Invocation.{Invocation}
use Rattle.ptk_words_model.specs.declared.Reply.{Reply}
use Rattle.ptk_words_model.specs.State.{Part}
use Rattle.ptk_words_model.specs.Calls.{Answer, refusal}
use Rattle.ptk_words_model.specs.Steps.{Row, valid}
use Rattle.ptk_gate_moves.specs.Held.{Held}

-- what the part in hand is after a move
pub part_moved : (u : Part) (old new : Held) → new ≡ record old { here = u } → new.here ≡ u
part_moved u old new e = ap (λ (h : Held). h.here) e

-- an answer that the rest of a row gives in the state to which the steps before it came is the row's
pub told_on : (row rest : Answer) (reply : Reply) → row ≡ rest → reply ≡ rest.reply → reply ≡ row.reply
told_on row rest reply e told = told ∙ ap (λ (a : Answer). a.reply) (sym e)

pub moved_on : (u : Part) (row rest : Answer) (old mid new : Held) → row ≡ rest → mid ≡ record old { here = u } → new ≡ record mid { here = rest.part } → new ≡ record old { here = row.part }
moved_on u row rest old mid new e first second =
    second ∙ ap (λ (h : Held). record h { here = rest.part }) first ∙ ap (λ (a : Answer). record old { here = a.part }) (sym e)

-- what two moves in a row leave is the second one's part
pub moved_twice : (u v : Part) (old mid new : Held) → mid ≡ record old { here = u } → new ≡ record mid { here = v } → new ≡ record old { here = v }
moved_twice u v old mid new first second = second ∙ ap (λ (h : Held). record h { here = v }) first

-- an error that is passed on refuses the call
pub refused_on : {A : Type 0} (r : Result A Errno) (e : Errno) (rest : A → Row) (i : Invocation) (s : Part) → IsErrAnd r (λ f. f ≡ e) → valid r rest i s ≡ refusal e i s
refused_on (Ok a) e rest i s is = absurd is
refused_on (Err f) e rest i s is = ap (λ (x : Errno). refusal x i s) is
