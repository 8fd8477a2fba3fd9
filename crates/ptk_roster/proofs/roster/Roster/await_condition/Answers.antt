use Rattle.std.proofs.Common.{◌≡◌, ◌∷◌, ◌++◌, [], List, ℕ, true, ap, arith}
use Rattle.ptk_words.specs.Parts.{part_of}
use Rattle.ptk_roster.specs.Rosters.{Rostered, is_marked}
use Rattle.ptk_roster.proofs.Pools.{pushed}
use Rattle.ptk_roster.proofs.Waits.{has_queues, condition_whole, slept_seen, used_mark}
use Rattle.ptk_roster.proofs.roster.Roster.await_condition.Goals as goal

pub append-requires-clause-free : goal.append-requires-clause-free
append-requires-clause-free c = (pushed 4611686018427387904 c.self.inside.line c.self.inside.threads c.self.inside.mutexes c.self.inside.conditions c.args.self.now c.args.p c.args.k c.self.view_is c.self.invariant c.requires.partition c.requires.in_use c.requires.fresh c.requires.free).free

pub invariant_of-self : goal.invariant_of-self
invariant_of-self c =
    let used : is_marked (part_of c.self.inside.conditions c.args.p) c.args.c ≡ true = (used_mark c.self.inside.threads.queues c.self.inside.conditions c.args.self.now.conditions c.args.p c.args.c (ap (λ (n : Rostered). n.conditions) c.self.view_is) c.requires.used) in
    condition_whole 4611686018427387904 c.self.inside.line c.self.inside.threads c.append.new.self c.self.inside.mutexes c.self.inside.conditions c.args.p c.args.c _ (omega (arith, c.number-number.ensures.value, c.number-number.ensures.positive))
    (λ free. absurd (cc)) c.append.ensures c.self.invariant

pub returns : goal.returns
returns c =
    slept_seen 4611686018427387904 c.self.inside.line c.self.inside.threads c.append.new.self c.self.inside.mutexes c.self.inside.conditions c.args.self.now c.args.p c.args.c (λ (w : List ℕ). w ++ c.args.k ∷ []) (has_queues 4611686018427387904 c.self.inside.line c.self.inside.threads c.self.inside.mutexes c.self.inside.conditions c.args.self.now c.args.p c.self.view_is c.self.invariant c.requires.partition c.parts-parts.ensures.queues) c.self.invariant (omega (arith, c.number-number.ensures.value, c.number-number.ensures.positive)) (omega (arith, c.number-number.ensures.value, c.number-number.ensures.in_range)) c.self.view_is
    (used_mark c.self.inside.threads.queues c.self.inside.conditions c.args.self.now.conditions c.args.p c.args.c (ap (λ (n : Rostered). n.conditions) c.self.view_is) c.requires.used) c.append.ensures
