-- Biases are minutes: UTC = local + bias.
use Rattle.std.specs.Prelude.{Bool, ℤ, pos, negsuc, leb, ltb}

-- -1,440 to 1,440 minutes: `negsuc n` is -(n + 1)
abbrev pub in_bias_range : ℤ → Bool
in_bias_range (pos n) = leb n 1440
in_bias_range (negsuc n) = ltb n 1440
