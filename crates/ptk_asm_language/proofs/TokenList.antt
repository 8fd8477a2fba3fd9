-- The tokens of a line, one after the other.
use Rattle.std.proofs.Common.{◌≡◌, ℕ, List, [], ◌∷◌, ◌++◌, Some, None, Option, option_map, refl, sym, ap, ◌∙◌, append_assoc}
use Rattle.std.proofs.lemmas.List.{append-nil, map-append}
use Rattle.ptk_asm_language.specs.Tokens.{Token, pieces, token, tokens_of, all_tokens, with_front}
use Rattle.ptk_asm_language.specs.Reading.{view, views}
use Rattle.ptk_asm_language.specs.declared.token.Spanned.{Spanned}

-- the tokens before, and those of a line
unfoldable pub joined : List Token → Option (List Token) → Option (List Token)
joined front tokens = option_map (λ ts. front ++ ts) tokens

joined_front : (front : List Token) (t : Token) (rest : Option (List Token)) → joined (front ++ t ∷ []) rest ≡ joined front (with_front (Some t) rest)
unfolding joined
joined_front front t (Some ts) = ap Some (append_assoc front (t ∷ []) ts)
joined_front front t None = refl

-- a token more
pub token_push : (front : List Token) (rest after piece : List ℕ) (t : Token) → pieces rest ≡ piece ∷ pieces after → token piece ≡ Some t
    → joined (front ++ t ∷ []) (tokens_of after) ≡ joined front (tokens_of rest)
token_push front rest after piece t e f =
    joined_front front t (tokens_of after) ∙ sym (ap (joined front) (ap all_tokens e ∙ ap (λ (o : Option Token). with_front o (tokens_of after)) f))

none_front : (rest : Option (List Token)) → with_front None rest ≡ None
none_front (Some ts) = refl
none_front None = refl

-- no token
pub token_stop : (front : List Token) (rest after piece : List ℕ) → pieces rest ≡ piece ∷ pieces after → token piece ≡ None
    → joined front (tokens_of rest) ≡ None
unfolding joined
token_stop front rest after piece e f =
    ap (joined front) (ap all_tokens e ∙ ap (λ (o : Option Token). with_front o (tokens_of after)) f ∙ none_front (tokens_of after))

-- no piece
pub token_end : (front : List Token) (rest : List ℕ) → pieces rest ≡ [] → joined front (tokens_of rest) ≡ Some front
unfolding joined
token_end front rest e = ap (joined front) (ap all_tokens e) ∙ ap Some (append-nil front)

pub joined_none : (rest : Option (List Token)) → joined [] rest ≡ rest
unfolding joined
joined_none (Some ts) = refl
joined_none None = refl

-- the same for the code's tokens
pub spanned_push : (front : List Spanned) (s : Spanned) (rest after piece : List ℕ) → pieces rest ≡ piece ∷ pieces after → Some (view s.token) ≡ token piece
    → joined (views (front ++ s ∷ [])) (tokens_of after) ≡ joined (views front) (tokens_of rest)
spanned_push front s rest after piece e f =
    rw (map-append (λ (x : Spanned). view x.token) front (s ∷ [])) (token_push (views front) rest after piece (view s.token) e (sym f))

pub spanned_stop : (front : List Spanned) (rest after piece : List ℕ) → pieces rest ≡ piece ∷ pieces after → None ≡ token piece
    → joined (views front) (tokens_of rest) ≡ None
spanned_stop front rest after piece e f = token_stop (views front) rest after piece e (sym f)
