-- Which characters are white space, and which trimming removes. Two definitions: the first is Unicode's, the second is this project's.
use Rattle.std.specs.Prelude.{ℕ, Bool, ◌||◌, ◌==◌}
use Rattle.std.specs.Int.{is_in_range}

-- Unicode's property White_Space: U+0009 to U+000D, U+0020, U+0085, U+00A0, U+1680, U+2000 to U+200A, U+2028, U+2029, U+202F, U+205F, U+3000
abbrev pub white_space : ℕ → Bool
white_space c = is_in_range 9 13 c || (c == 32 || (c == 133 || (c == 160 || (c == 5760 || (is_in_range 8192 8202 c || (c == 8232 || (c == 8233 || (c == 8239 || (c == 8287 || c == 12288)))))))))

-- what trimming removes from the ends of a text
abbrev pub blank : ℕ → Bool
blank c = white_space c
