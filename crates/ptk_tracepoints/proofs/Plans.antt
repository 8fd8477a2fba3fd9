-- The windows of a configuration's plan.
use Rattle.std.proofs.Common.{◌≡◌, ℕ, ◌/◌, ◌%◌, ◌<◌, List, All, Any, length, sym, subst}
use Rattle.ptk_words_model.specs.declared.window.Window.{Window}
use Rattle.ptk_words_model.specs.Windows.{Holds, IsOwnUntil, Stage, WindowPlan, end_from, windows_at}
use Rattle.ptk_words_model.proofs.FaultLaws.{accepted}
use Rattle.ptk_words_model.proofs.InForce.{in_force, one_in_force}
use Rattle.ptk_words_model.proofs.Lists.{Any-all}
use Rattle.ptk_config.specs.Configuration.{Configuration, IsConfiguration}

-- a window's partition has a section
pub known_part : (config : Configuration) (p tick end : ℕ) → IsConfiguration config → IsOwnUntil config.plan p tick end → p < length config.sections
known_part config p tick end is until =
    let parts = length config.sections in
    let stages = config.plan.stages in
    let both = accepted config.plan.frame parts stages is.plan in
    let one = one_in_force config.plan (tick / config.plan.frame) both.0 in
    let here = Any-all (λ (s : Stage). s ≡ one.0) (λ (s : Stage). All (λ (w : Window). w.partition < parts) s.windows) stages both.1 one.1.listed in
    let windows : All (λ (w : Window). w.partition < parts) one.0.windows = subst (λ (s : Stage). All (λ (w : Window). w.partition < parts) s.windows) here.4.0 here.4.1 in
    let known : All (λ (w : Window). w.partition < parts) (windows_at config.plan tick) =
    subst (λ (ws : List Window). All (λ (w : Window). w.partition < parts) ws) (sym (in_force stages (tick / config.plan.frame) one.0 both.0.rising one.1)) windows in
    let found = Any-all (λ (w : Window). (w.partition ≡ p) × Holds w (tick % config.plan.frame) × (end ≡ end_from config.plan.frame tick w)) (λ (w : Window). w.partition < parts) (windows_at config.plan tick) known until in
    subst (λ (k : ℕ). k < parts) found.4.0.0 found.4.1

pub known_at : (config : Configuration) (plan : WindowPlan) (p tick end : ℕ) → IsConfiguration config → plan ≡ config.plan → IsOwnUntil plan p tick end → p < length config.sections
known_at config plan p tick end is same until = known_part config p tick end is (subst (λ (it : WindowPlan). IsOwnUntil it p tick end) same until)
