-- The names of configurations.
use Rattle.std.specs.Prelude.{ℕ, List, codes, Option, Some, None, if◌then◌else◌}
use Rattle.std.specs.Str.{bytes_eq}
use Rattle.rlsf_trace_text.specs.declared.configuration.Configuration.{Configuration}
use Rattle.rlsf_trace_text.specs.declared.configuration.Configuration.TheVariants.{EightByEight, TwelveBySixteen, FiftyNineByEight, OneByOne, EightByOne}

-- the configuration that a word names: the number of first-level rows, an x, and the number of classes in each
abbrev pub configuration_named : List ℕ → Option Configuration
configuration_named word =
    if bytes_eq word (codes "8x8") then Some EightByEight
    else (if bytes_eq word (codes "12x16") then Some TwelveBySixteen
    else (if bytes_eq word (codes "59x8") then Some FiftyNineByEight
    else (if bytes_eq word (codes "1x1") then Some OneByOne
    else (if bytes_eq word (codes "8x1") then Some EightByOne
    else None))))
