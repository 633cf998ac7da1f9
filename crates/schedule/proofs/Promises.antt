-- What the private functions promise, as their callers read it, and the night's portions as they are worked. Assumes nothing.
use Rattle.prelude.proofs.Logic.{◌≡◌, refl, ap, subst, ◌∙◌, ℕ, ◌+◌, ◌^◌, ◌≤◌, lit≤, ℤ, ◌+ℤ◌}
use Rattle.prelude.proofs.Logic.{w32, w64, SFits}
use Rattle.integers.proofs.Integers.{Near, wider, inside_between, read_back, read, Held, of_wide, held_sum, stored}
use Rattle.night_portions.specs.Portions.{seventh_of, middle_of, last_third_of}
use Rattle.night_portions.proofs.Steady.{longest}
use Rattle.night_portions.proofs.PortionsLaws.{seventh_inside, middle_inside, last_third_inside}

-- equal arguments give equal results
pub both : (f : ℤ → ℤ → ℤ) {x y u v : ℤ} → x ≡ u → y ≡ v → f x y ≡ f u v
both f {x} {y} {u} {v} p q = ap (λ (z : ℤ). f z y) p ∙ ap (λ (z : ℤ). f u z) q

pub of_near : {n : ℕ} {r w : ℤ} → (r ≡ w) × Near n r → n ≤ 2 ^ 62 → Held n (read_back w64 r) w
of_near {n} p l = stored (record { is = p.0; near = subst (Near n) p.0 p.1 }) l

-- an i32 as an i64, by `from`
pub of_from : (x : ℤ) {y : ℤ} → SFits w32 x → y ≡ read_back w32 x → Held (2 ^ 31) (read_back w64 y) x
of_from x f e = stored (record { is = e ∙ read w32 x f; near = (of_wide x f).near }) (lit≤ tt)

-- a time from 1970 on: the start of its date, and the time from there
pub on_start : {s r x : ℤ} → (r ≡ s) × Near (2 ^ 58) r → Near (2 ^ 43) x
    → Held (2 ^ 58 + 2 ^ 43) (read_back w64 r +ℤ read_back w64 x) (s +ℤ x)
on_start p h = held_sum (of_near p (lit≤ tt)) (of_near (refl, h) (lit≤ tt))

pub held_seventh : {n : ℕ} {z w : ℤ} → Held n z w → Held n (seventh_of z) (seventh_of w)
held_seventh {n} {z} {w} h = record { is = ap seventh_of h.is; near = inside_between (seventh_inside w) h.near }

pub held_middle : {n : ℕ} {z w : ℤ} → Held n z w → n ≤ longest → Held n (middle_of z) (middle_of w)
held_middle {n} {z} {w} h l = record { is = ap middle_of h.is; near = inside_between (middle_inside w (wider h.near l l)) h.near }

pub held_last_third : {n : ℕ} {z w : ℤ} → Held n z w → n ≤ longest → Held n (last_third_of z) (last_third_of w)
held_last_third {n} {z} {w} h l =
    record { is = ap last_third_of h.is; near = inside_between (last_third_inside w (wider h.near l l)) h.near }
