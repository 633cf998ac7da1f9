-- A function of an instant, at the two arguments of an export that make the instant. Assumes nothing.
use Rattle.prelude.proofs.Logic.{◌≡◌, ap, ◌∙◌, ℕ, ℤ, w64, SFits}
use Rattle.integers.proofs.Ranges.{read_back, read}
use Rattle.schedule.specs.declared.in_force.Instant.{Instant}
use Rattle.days.specs.Calls.{instant_of}

pub at : {A : Type 0} (f : Instant → A) (seconds : ℤ) (nanoseconds : ℕ) (i : Instant)
    → SFits w64 seconds → i ≡ instant_of (read_back w64 seconds) nanoseconds → f i ≡ f (instant_of seconds nanoseconds)
at f seconds nanoseconds i h q = ap f (q ∙ ap (λ (z : ℤ). instant_of z nanoseconds) (read w64 seconds h))
