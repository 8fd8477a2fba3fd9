use Rattle.std.proofs.Common.{sym, ◌∙◌, ap, refl}
use Rattle.std.specs.Vec.{with_items_from}
use Rattle.ptk_words.specs.Cuts.{ends_in, lent}
use Rattle.ptk_words.proofs.Cuts.{in_extents, part_lies, part-is, placed, lent-is, is_cut-length}
use Rattle.ptk_words.proofs.parted.Parted.lend.Goals as goal

pub at-extent-requires : goal.at-extent-requires
at-extent-requires g c = in_extents _ _ _ _ c.self.view_is c.requires

pub slice_mut-requires-clause-start_le_end : goal.slice_mut-requires-clause-start_le_end
slice_mut-requires-clause-start_le_end g c =
    let at = part_lies _ _ _ _ c.self.view_is c.self.invariant.1 c.requires in
    let place = placed _ c.args.p _ c.at-extent.ensures c.self.invariant.0 in
    rw (place.0, place.1) at.ordered

pub slice_mut-requires-clause-in_bounds : goal.slice_mut-requires-clause-in_bounds
slice_mut-requires-clause-in_bounds g c =
    let at = part_lies _ _ _ _ c.self.view_is c.self.invariant.1 c.requires in
    let place = placed _ c.args.p _ c.at-extent.ensures c.self.invariant.0 in
    rw (place.1, c.self.inside.items.ok.0) at.within

pub invariant_of-self-lent : goal.invariant_of-self-lent
invariant_of-self-lent g c = λ w. (
  c.self.invariant.0,
  is_cut-length 0 (ends_in c.self.inside.extents) c.self.inside.items.items _
      (sym c.self.inside.items.ok.0 ∙ (with_items_from c.self.inside.items c.at-extent.result.start w).ok.0) c.self.invariant.1,
)

pub returns : goal.returns
returns g c =
    let place = placed _ c.args.p _ c.at-extent.ensures c.self.invariant.0 in (
      (
        refl,
        λ w. rw (place.0, c.self.inside.items.ok.0)
            (lent-is (ends_in c.self.inside.extents) c.self.inside.items.items c.args.p w c.self.invariant.1 ∙ ap (λ parts. lent parts c.args.p w) c.self.view_is),
      ),
      record {
        writes_back = tt;
        value = c.slice_mut.ensures.value ∙ rw (place.0, place.1) (part-is _ _ _ _ c.self.view_is c.requires);
      },
    )
