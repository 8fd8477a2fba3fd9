use Rattle.std.proofs.Common.{◌≡◌, length, subst}
use Rattle.ptk_asm.specs.Laws.{WordsDecode}
use Rattle.ptk_asm.proofs.Images.{text_length, data_length, words_there}
use Rattle.ptk_asm.proofs.assembling.assemble.Goals as goal

pub new-requires-clause-aligned : goal.new-requires-clause-aligned
new-requires-clause-aligned c =
    let laid = c.in_ok-layout.ensures.ok in
    rw laid.1.0.shows.entry laid.1.0.whole.entry

pub new-requires-clause-inside : goal.new-requires-clause-inside
new-requires-clause-inside c =
    let laid = c.in_ok-layout.ensures.ok in
    let e : length c.in_ok-contents.contents.text.items ≡ c.in_ok-layout.layout.lengths.text = text_length _ laid.0 _ laid.1.0.shows c.in_ok-contents.ensures.text in
    rw (e, laid.1.0.shows.entry, laid.1.0.shows.lengths) laid.1.0.whole.inside

pub new-requires-clause-whole : goal.new-requires-clause-whole
new-requires-clause-whole c =
    let laid = c.in_ok-layout.ensures.ok in
    let e : length c.in_ok-contents.contents.text.items ≡ c.in_ok-layout.layout.lengths.text = text_length _ laid.0 _ laid.1.0.shows c.in_ok-contents.ensures.text in
    rw (e, laid.1.0.shows.lengths) laid.1.0.whole.text

pub new-requires-clause-text_fits : goal.new-requires-clause-text_fits
new-requires-clause-text_fits c =
    let laid = c.in_ok-layout.ensures.ok in
    let e : length c.in_ok-contents.contents.text.items ≡ c.in_ok-layout.layout.lengths.text = text_length _ laid.0 _ laid.1.0.shows c.in_ok-contents.ensures.text in
    rw e c.lengths_fit.ensures.text

pub new-requires-clause-data_fits : goal.new-requires-clause-data_fits
new-requires-clause-data_fits c =
    let laid = c.in_ok-layout.ensures.ok in
    let e : length c.in_ok-contents.contents.«data».items ≡ c.in_ok-layout.layout.lengths.«data» = data_length _ laid.0 _ laid.1.0.shows c.in_ok-contents.ensures.contents in
    rw e c.lengths_fit.ensures.contents

pub returns-clause-words : goal.returns-clause-words
returns-clause-words c =
    subst WordsDecode c.as_bytes.ensures.value (words_there c.in_ok-layout.layout c.as_bytes.result.now c.in_ok-layout.ensures.ok c.in_ok-contents.ensures.words)
