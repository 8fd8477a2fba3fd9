use Rattle.std.proofs.Common.{◌≡◌, [], false, ◌∙◌, sym, ap, rules}
use Rattle.std.specs.Option.{is_some}
use Rattle.std.specs.Prelude.{slice_set}
use Rattle.std.proofs.lemmas.List.{set-get_or}
use Rattle.ptk_words.specs.Parts.{part_of}
use Rattle.ptk_clock.proofs.LeastDeadlines.{none_set}
use Rattle.ptk_clock.proofs.threads.ThreadDeadlines.set.Goals as goal

pub returns-else-is_some-2 : goal.returns-else-is_some-2
returns-else-is_some-2 c =
    let new : is_some c.args.deadline ≡ false = search rules in
    let old : is_some c.next.result ≡ false = search rules in
    sym (ap (slice_set c.args.self.now c.args.p) (none_set c.args.t c.next.result c.args.deadline (part_of c.args.self.now c.args.p) c.next.ensures new old)
    ∙ set-get_or c.args.self.now c.args.p [])
