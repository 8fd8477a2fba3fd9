-- The bytes of statements, one after the other.
use Rattle.std.proofs.Common.{◌≡◌, ℕ, ◌+◌, ◌<◌, length, get_or, drop, take, List, [], ◌∷◌, ◌++◌, Some, None, map, refl, sym, ap, ◌∙◌, add-one, drop-cons}
use Rattle.std.proofs.lemmas.Grind.{flat_map-append}
use Rattle.std.proofs.lemmas.List.{append-nil, map-append, take_more}
use Rattle.std.proofs.lemmas.List.Elements.{All-nil, All-cons, All-same, All-append}
use Rattle.std.specs.List.{All}
use Rattle.ptk_asm_language.specs.declared.statement.Section.{Section}
use Rattle.ptk_asm_language.specs.declared.fault.FaultKind.{FaultKind}
use Rattle.ptk_asm_language.specs.declared.fault.FaultKind.TheVariants as fault
use Rattle.ptk_asm_language.specs.Source.{Layout, second_pass, reference_fault, contents_of, bytes_in}
use Rattle.ptk_asm.specs.Laws.{IsDecoded}
use Rattle.ptk_asm.specs.declared.placed.Placed as code
use Rattle.ptk_asm.specs.declared.fault.AsmFault.{AsmFault}
use Rattle.ptk_asm.specs.Passing.{shown_placed, IsAt, IsSecond}

-- a statement more without a fault
pub second-more : (known : Layout) (ps : List code.Placed) (i : ℕ) (p : code.Placed) → i < length ps → p ≡ get_or ps i p → reference_fault known (shown_placed p) ≡ None
    → second_pass known (map shown_placed (drop (i + 1) ps)) ≡ second_pass known (map shown_placed (drop i ps))
second-more known ps i p inside is_p none =
    rw (add-one, drop-cons ps i p inside, ← is_p, none) refl

second-fault : (known : Layout) (ps : List code.Placed) (i : ℕ) (p : code.Placed) (k : FaultKind) → i < length ps → p ≡ get_or ps i p → reference_fault known (shown_placed p) ≡ Some k
    → second_pass known (map shown_placed (drop i ps)) ≡ Some (record { span = p.span; place = p.last; kind = k })
second-fault known ps i p k inside is_p found =
    rw (drop-cons ps i p inside, ← is_p, found) refl

-- the first fault is that of this statement
pub second-at : (known : Layout) (ps : List code.Placed) (i : ℕ) (p : code.Placed) (e : AsmFault) (k : FaultKind) → i < length ps → p ≡ get_or ps i p
    → IsAt k e p.span p.last (reference_fault known (shown_placed p)) → second_pass known (map shown_placed (drop i ps)) ≡ second_pass known (map shown_placed ps)
    → IsSecond k e (second_pass known (map shown_placed ps))
second-at known ps i p e fault.Memory inside is_p h same = tt
second-at known ps i p e fault.Token inside is_p h same = (_, (h.1, sym same ∙ second-fault known ps i p _ inside is_p h.0))
second-at known ps i p e fault.Mnemonic inside is_p h same = (_, (h.1, sym same ∙ second-fault known ps i p _ inside is_p h.0))
second-at known ps i p e fault.Register inside is_p h same = (_, (h.1, sym same ∙ second-fault known ps i p _ inside is_p h.0))
second-at known ps i p e fault.Range inside is_p h same = (_, (h.1, sym same ∙ second-fault known ps i p _ inside is_p h.0))
second-at known ps i p e fault.UnknownLabel inside is_p h same = (_, (h.1, sym same ∙ second-fault known ps i p _ inside is_p h.0))
second-at known ps i p e fault.DoubledLabel inside is_p h same = (_, (h.1, sym same ∙ second-fault known ps i p _ inside is_p h.0))

-- a statement more
pub contents-more : (known : Layout) (s : Section) (ps : List code.Placed) (i : ℕ) (p : code.Placed) → i < length ps → p ≡ get_or ps i p
    → contents_of known s (map shown_placed (take (i + 1) ps)) ≡ contents_of known s (map shown_placed (take i ps)) ++ bytes_in known s (shown_placed p)
contents-more known s ps i p inside is_p =
    ap (λ (t : List code.Placed). contents_of known s (map shown_placed t)) (take_more ps i p inside)
    ∙ ap (contents_of known s) (map-append shown_placed (take i ps) (get_or ps i p ∷ []))
    ∙ flat_map-append (bytes_in known s) (map shown_placed (take i ps)) (shown_placed (get_or ps i p) ∷ [])
    ∙ ap (λ (t : List ℕ). contents_of known s (map shown_placed (take i ps)) ++ t) (append-nil (bytes_in known s (shown_placed (get_or ps i p))) ∙ ap (λ (q : code.Placed). bytes_in known s (shown_placed q)) (sym is_p))

-- a statement more whose words decode
pub decoded-more : (known : Layout) (ps : List code.Placed) (i : ℕ) (p : code.Placed) → i < length ps → p ≡ get_or ps i p
    → All (IsDecoded known) (map shown_placed (take i ps)) → IsDecoded known (shown_placed p) → All (IsDecoded known) (map shown_placed (take (i + 1) ps))
decoded-more known ps i p inside is_p before here =
    let same : map shown_placed (take (i + 1) ps) ≡ map shown_placed (take i ps) ++ (shown_placed p ∷ []) =
    ap (map shown_placed) (take_more ps i p inside)
    ∙ map-append shown_placed (take i ps) (get_or ps i p ∷ [])
    ∙ ap (λ (q : code.Placed). map shown_placed (take i ps) ++ (shown_placed q ∷ [])) (sym is_p) in
    All-same (IsDecoded known) (map shown_placed (take (i + 1) ps)) (map shown_placed (take i ps) ++ (shown_placed p ∷ [])) same
    (All-append (IsDecoded known) (map shown_placed (take i ps)) (shown_placed p ∷ []) before (All-cons (IsDecoded known) (shown_placed p) [] here (All-nil (IsDecoded known))))

-- what a statement more comes to
pub ruleset contents_rules = (second-more, second-at, contents-more)
