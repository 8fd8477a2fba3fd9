use Rattle.std.proofs.Common.{◌≡◌, ◌≤◌, ◌++◌, length}
use Rattle.ptk_asm_language.specs.Tokens as is
use Rattle.ptk_asm_language.specs.Places.{behind_pieces, extents_of, places_of, first_wrong, wrong_place}
use Rattle.ptk_asm_language.specs.Reading.{views, spots}
use Rattle.ptk_asm_language.proofs.TokenList.{joined}
use Rattle.ptk_asm_language.proofs.scanner.tokens_of.Given as goal

abbrev pub invariant-loop-piece : goal.invariant-loop-piece
invariant-loop-piece l =
    (length l.rest ≤ length l.line)
    × (joined (views l.tokens.items) (is.tokens_of l.rest) ≡ is.tokens_of l.line)
    × (spots l.tokens.items ++ extents_of l.line (is.pieces l.rest) (behind_pieces l.rest) ≡ places_of l.line)
    × (first_wrong l.line (is.pieces l.rest) (behind_pieces l.rest) ≡ wrong_place l.line)

abbrev pub decreases-loop-piece : goal.decreases-loop-piece
decreases-loop-piece l = length l.rest
