use Rattle.std.proofs.Common.{lit<, [], ◌∷◌, ◌++◌, ◌∙◌, ap}
use Rattle.std.proofs.lemmas.List.{set-get_or}
use Rattle.ptk_words.specs.Parts.{part_of}
use Rattle.ptk_words_model.specs.Schedule.{woken_with}
use Rattle.ptk_ready.specs.Queues.{waiters_of}
use Rattle.ptk_ready.specs.Partitions.{lines_by}
use Rattle.ptk_roster.proofs.Rosters.{last_used}
use Rattle.ptk_roster.proofs.Pools.{pushed}
use Rattle.ptk_roster.proofs.Passed.{roused_whole, roused_seen}
use Rattle.ptk_roster.proofs.roster.Roster.rouse.Goals as goal

pub rouse-requires : goal.rouse-requires
rouse-requires c =
    let own = pushed 4611686018427387904 c.self.inside.line c.self.inside.threads c.self.inside.mutexes c.self.inside.conditions c.args.self.now c.args.p c.args.k c.self.view_is c.self.invariant c.requires.partition c.requires.in_use c.requires.fresh c.requires.free in
    (lit< tt, (own.parts, (tt, (own.used, (own.out, (c.self.invariant.lined.filed, (own.free, (own.level, c.requires.few))))))))

pub invariant_of-self : goal.invariant_of-self
invariant_of-self c =
    let own = pushed 4611686018427387904 c.self.inside.line c.self.inside.threads c.self.inside.mutexes c.self.inside.conditions c.args.self.now c.args.p c.args.k c.self.view_is c.self.invariant c.requires.partition c.requires.in_use c.requires.fresh c.requires.free in
    roused_whole 4611686018427387904 c.self.inside.line c.rouse.new.self c.self.inside.threads c.rouse.new.threads c.self.inside.mutexes c.self.inside.conditions c.args.p c.args.k (woken_with c.args.values.now) (part_of (lines_by c.self.inside.line c.self.inside.threads.queues) c.args.p ++ c.args.k ∷ [])
    c.self.invariant c.rouse.ensures.sound c.rouse.ensures.threads c.rouse.ensures.stored (c.rouse.ensures.waiters ∙ ap waiters_of (set-get_or c.self.inside.threads.queues c.args.p [])) c.rouse.ensures.line
    (last_used c.self.inside.threads c.args.p c.args.k (part_of (lines_by c.self.inside.line c.self.inside.threads.queues) c.args.p) own.used (λ j inside. c.self.invariant.lined.listed c.args.p j inside))
    own.parts.1

pub returns : goal.returns
returns c =
    roused_seen c.self.inside.line c.rouse.new.self c.self.inside.threads c.rouse.new.threads c.self.inside.mutexes c.self.inside.conditions c.args.self.now c.args.p c.args.k (woken_with c.args.values.now) (λ ks. ks ++ c.args.k ∷ [])
    c.self.view_is c.rouse.ensures.threads c.rouse.ensures.stored (c.rouse.ensures.waiters ∙ ap waiters_of (set-get_or c.self.inside.threads.queues c.args.p [])) c.rouse.ensures.line
