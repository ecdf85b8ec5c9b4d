-- A literal's Compares, by the numbers of the first puts.
use Rattle.std.specs.Prelude.{◌≡◌, Bool, cond, ◌&&◌, ℕ, ◌≤◌, length, get_or, take, leb, ltb, eqb}
use mathlib.Core.List.{List, [], ◌∷◌, map, flat_map}
use Rattle.clause.specs.Lists.{numbers_below}
use Rattle.machine.specs.Instr.{Compare, Do, key}
use Rattle.machine.specs.Machine.{slots}
use Rattle.machine.specs.Compile.{first}
use Rattle.compiling.specs.declared.puts.Put.{Put}

-- for each put the number of its variable's first put
abbrev pub firsts_of : List ℕ → List ℕ
firsts_of puts = map (λ v. first v puts) puts

-- the same as the code holds them, and the variables put
abbrev pub firsts_in : List Put → List ℕ
firsts_in puts = map (λ p. p.first) puts

abbrev pub variables_in : List Put → List ℕ
variables_in puts = map (λ p. p.variable) puts

-- the puts so far hold the numbers of their variables' first puts
pub record Numbered (count : ℕ) (puts : List Put) : Type 0 where
  pub few : count ≤ slots
  pub size : length puts ≡ slots
  pub numbers : firsts_in (take count puts) ≡ firsts_of (variables_in (take count puts))

-- put k, of a literal that began at put `from`, repeats put m < k, by the numbers of the first puts
unfoldable pub repeats_by : (firsts : List ℕ) (from m k : ℕ) → Bool
repeats_by firsts from m k = leb from k && (ltb m k && eqb (get_or firsts k 0) m)

-- the keys of the Compares of put m with each later one
unfoldable pub row_keys : (firsts : List ℕ) (from m : ℕ) → List ℕ
row_keys firsts from m = flat_map (λ k. cond (repeats_by firsts from m k) (key (Do (Compare m k)) ∷ []) []) (numbers_below (length firsts))
