-- Ticks moved by a bias, in minutes: UTC = local + bias.
use Rattle.std.specs.Prelude.{ℕ, suc, ◌+◌, ◌-◌, ◌*◌, ℤ, pos, negsuc}
use Rattle.days.specs.Ticks.{minute}

-- A local tick plus a bias, and a UTC tick less a bias. The window starts 365 days after tick 0 and a bias is at most a day,
-- so that at its ticks no difference is cut off at 0.
abbrev pub plus_bias : ℕ → ℤ → ℕ
plus_bias t (pos n) = t + n * minute
plus_bias t (negsuc n) = t - suc n * minute

abbrev pub less_bias : ℕ → ℤ → ℕ
less_bias t (pos n) = t - n * minute
less_bias t (negsuc n) = t + suc n * minute
