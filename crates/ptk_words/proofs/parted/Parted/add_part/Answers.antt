use Rattle.std.proofs.Common.{◌≡◌, ◌∙◌, ap, sym, ◌++◌, ◌∷◌, []}
use Rattle.ptk_words.specs.Cuts.{ends_in, last_end}
use Rattle.ptk_words.proofs.Cuts.{added, ends_in-push, in_turn-push, last_end-cut, length-parts}
use Rattle.ptk_words.proofs.parted.Parted.add_part.Goals as goal

pub push-requires : goal.push-requires
push-requires g c = rw (length-parts _ _ _ c.self.view_is) c.requires.room

pub invariant_of-self-2 : goal.invariant_of-self-2
invariant_of-self-2 g c =
    let more = c.push.ensures in
    let begins : c.len-start.result ≡ last_end 0 (ends_in c.self.inside.extents) = c.len-start.ensures ∙ c.self.inside.items.ok.0 ∙ sym (last_end-cut 0 _ c.self.inside.items.items c.self.invariant.1) in (
      rw more (in_turn-push 0 c.self.inside.extents _ c.self.invariant.0 begins),
      (added (ends_in c.self.inside.extents) _ c.self.inside.items.items _ c.args.items.items _ c.self.invariant.1
          c.in_ok-append.ensures.items (ap ends_in more ∙ ends_in-push c.self.inside.extents _)
          (c.len-end.ensures ∙ c.append.new.self.ok.0)).0,
    )

pub returns-clause-ok : goal.returns-clause-ok
returns-clause-ok g c =
    let more = c.push.ensures in
    (added (ends_in c.self.inside.extents) _ c.self.inside.items.items _ c.args.items.items _ c.self.invariant.1
    c.in_ok-append.ensures.items (ap ends_in more ∙ ends_in-push c.self.inside.extents _)
    (c.len-end.ensures ∙ c.append.new.self.ok.0)).1 ∙ ap (λ parts. parts ++ c.args.items.items ∷ []) c.self.view_is
