-- What is sent to a writer of JSON, one thing behind the other.
use Rattle.std.proofs.Common.{◌∙◌, List, [], ◌∷◌, ◌++◌, Some, None, ap, subst, append_assoc}
use Rattle.serde.specs.Event.{Event, Log, Logs, map_begins, map_ends}
use Rattle.ptk_main_runs.specs.Members.{SendsAll, object}

-- the first, and the rest behind it
pub sends_then : (first rest : List Event) (old mid new : Log) → SendsAll first old mid → SendsAll rest mid new → SendsAll (first ++ rest) old new
sends_then first rest None mid new a b = tt
sends_then first rest (Some before) mid new a b =
    let all = subst (λ (m : Log). SendsAll rest m new) a b in
    all ∙ ap (λ (events : List Event). Some events) (append_assoc before first rest)

-- one event
pub logged : (event : Event) (old new : Log) → Logs old new event → SendsAll (event ∷ []) old new
logged event None new sent = tt
logged event (Some before) new sent = sent

-- an object is its members between its marks
pub object_sent : (inside : List Event) (a b c d : Log) → Logs a b (map_begins None) → SendsAll inside b c → Logs c d map_ends → SendsAll (object inside) a d
object_sent inside a b c d begins sent ends =
    sends_then (map_begins None ∷ []) (inside ++ (map_ends ∷ [])) a b d (logged (map_begins None) a b begins)
    (sends_then inside (map_ends ∷ []) b c d sent (logged map_ends c d ends))
