-- The setting of a run, by its first argument.
use Rattle.std.specs.Prelude.{Bool, true, false, List, [], ◌∷◌, ℕ}
use Rattle.clause.specs.Lists.{alike}
use Rattle.record.specs.declared.Setting.{Setting}
use Rattle.record.specs.declared.Setting.TheVariants.{Plain, Back}

-- `back`
abbrev pub says_back : List ℕ
says_back = 98 ∷ 97 ∷ 99 ∷ 107 ∷ []

-- on or off
abbrev pub setting_if : (back : Bool) → Setting
setting_if true = Back
setting_if false = Plain

-- backward striking is on exactly if the argument is `back`
abbrev pub setting_of : (argument : List ℕ) → Setting
setting_of a = setting_if (alike a says_back)
