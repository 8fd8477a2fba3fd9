use Rattle.std.proofs.Common.{◌∙◌, ap, sym, refl, ℕ, ◌+◌, List, arith, length, length-append}
use Rattle.ptk_words.specs.Cuts.{ends_in, last_end}
use Rattle.ptk_words.specs.declared.extents.Extent.{Extent}
use Rattle.ptk_words.proofs.Cuts.{ends_in-push, in_turn-push, last_end-push, told-next}
use Rattle.ptk_words.proofs.parted.extents_of.Goals as goal

pub loop-length-preserved : goal.loop-length-preserved
loop-length-preserved c =
    let more = c.push.ensures in
    let before = c.loop-length.extents in
    record {
      in_turn = rw more (in_turn-push 0 before _ c.loop-length.invariant.in_turn c.loop-length.invariant.last);
      last = sym (ap (λ (es : List Extent). last_end 0 (ends_in es)) more ∙ ap (last_end 0) (ends_in-push before _) ∙ last_end-push 0 (ends_in before) _);
      told = rw more (told-next before _ c.args.lengths.now c.loop-length.length-index c.loop-length-test.true refl ∙ c.loop-length.invariant.told);
      each = ap (λ (es : List Extent). length es) more ∙ length-append before _ ∙ ap (λ (n : ℕ). n + 1) c.loop-length.invariant.each;
      small = omega (arith, c.loop-length.invariant.small);
    }
