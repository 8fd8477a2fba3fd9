-- Every number costs 1 to 16 ticks, and a call is the call of its own number alone.
use Rattle.std.proofs.Common.{◌≡◌, ℕ, ◌≤◌, Bool, true, false, List, [], ◌∷◌, ◌==◌, refl, ap, subst, lit≤}
use Rattle.std.specs.Prelude.{find, option_map, unwrap_or, if◌then◌else◌, Option, Some, None}
use Rattle.std.specs.List.{Contains}
use Rattle.std.proofs.lemmas.Bool.{eqb-true}
use Rattle.std.proofs.lemmas.List.Elements.{Contains-append_left, Contains-append_right, Contains-push}
use Rattle.ptk_words.specs.declared.calls.Call.{Call}
use Rattle.ptk_words.specs.declared.calls.Call.TheVariants as call
use Rattle.ptk_words.specs.Calls.{calls, number_of, ticks_of, call_of, cost_of}
use Rattle.ptk_words_model.specs.CallTable.{answer_to}
use Rattle.ptk_words_laws.specs.Laws.{CallsAreNumbered}

-- ---- ticks

abbrev IsSmall : ℕ → Type 0
IsSmall n = (1 ≤ n) × (n ≤ 16)

ticks_small : (known : Call) → IsSmall (ticks_of known)
ticks_small call.Exit = (lit≤ tt, lit≤ tt)
ticks_small _ = (lit≤ tt, lit≤ tt)

cost_small_of : (o : Option Call) → IsSmall (unwrap_or (option_map ticks_of o) 2)
cost_small_of None = (lit≤ tt, lit≤ tt)
cost_small_of (Some known) = ticks_small known

pub cost_small : (number : ℕ) → IsSmall (cost_of number)
cost_small number = cost_small_of (call_of number)

-- ---- numbers

own_number : (known : Call) → call_of (number_of known) ≡ Some known
own_number call.Exit = refl
own_number _ = refl

-- what a search finds stands in the list and passes the test
record IsFound (test : Call → Bool) (list : List Call) (known : Call) : Type 0 where
  pub listed : Contains list known
  pub passes : test known ≡ true

found_step : (test : Call → Bool) (other : Call) (list : List Call) (known : Call) (b : Bool) → test other ≡ b → (find test list ≡ Some known → IsFound test list known) → (if b then Some other else find test list) ≡ Some known → IsFound test (other ∷ list) known
found_step test other list known true e ih found =
    let same : other ≡ known = cc in
    subst (λ (c : Call). IsFound test (other ∷ list) c) same (record { listed = Contains-append_left (other ∷ []) list other (Contains-push [] other); passes = e })
found_step test other list known false e ih found =
    let rest : IsFound test list known = ih found in
    record { listed = Contains-append_right (other ∷ []) list known rest.listed; passes = rest.passes }

is_found : (test : Call → Bool) (list : List Call) (known : Call) → find test list ≡ Some known → IsFound test list known
is_found test [] known found = absurd (cc found)
is_found test (other ∷ list) known found = found_step test other list known (test other) refl (is_found test list known) found

of_number : (number : ℕ) (known : Call) → call_of number ≡ Some known → IsFound (λ c. number_of c == number) calls known
of_number number known found = is_found (λ c. number_of c == number) calls known found

pub calls_numbered : CallsAreNumbered
calls_numbered =
    record {
      listed = λ known. (of_number (number_of known) known (own_number known)).listed;
      of_its_number = own_number;
      of_no_other = λ number known found. eqb-true (number_of known) number (of_number number known found).passes;
      answered = λ known. ap answer_to (own_number known);
    }
