-- A run along the keys of a sequence is a run of the sequence.
use mathlib.Core.Path.{◌≡◌, refl, ap, fun_ext}
use mathlib.Core.List.{List, [], ◌∷◌, map}
use Prim.Native.Nat.{ℕ, suc}
use Rattle.clause.specs.Lists.{All, also}
use Rattle.machine.specs.Instr.{Instr, First, Do, Success, key}
use Rattle.machine.specs.Machine.{State, start, run as run_code}
use Rattle.walk.specs.Query.{machine}
use Rattle.machine.proofs.Keys.{Plain, instr_of_first, instr_of_step}
use Rattle.machine.proofs.Codes.{firsts as firsts_of}
use Rattle.walk.proofs.Paths.{firsts, run}

pub run_keys : (d : List ℕ) (sequence : List Instr) → All Plain sequence → (js : List ℕ) (s : State)
    → run (machine d) (map key sequence) js s ≡ run_code d sequence js s
unfolding run_code start
run_keys d [] p js s = refl
run_keys d (First ∷ sequence) (also h p) [] s = rw instr_of_first
run_keys d (First ∷ sequence) (also h p) (j ∷ js) s = rw (instr_of_first, fun_ext (run_keys d sequence p js))
run_keys d (Do x ∷ sequence) (also h p) js s = rw (instr_of_step x h, fun_ext (run_keys d sequence p js))
run_keys d (Success n ∷ sequence) (also h p) js s = absurd h

pub firsts_keys : (sequence : List Instr) → All Plain sequence → firsts (map key sequence) ≡ firsts_of sequence
unfolding firsts_of
firsts_keys [] p = refl
firsts_keys (First ∷ sequence) (also h p) = rw instr_of_first (ap suc (firsts_keys sequence p))
firsts_keys (Do x ∷ sequence) (also h p) = rw (instr_of_step x h) (firsts_keys sequence p)
firsts_keys (Success n ∷ sequence) (also h p) = absurd h
