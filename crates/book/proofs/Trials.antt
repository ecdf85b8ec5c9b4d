-- The starred rows of the trial clauses hold.
use mathlib.Core.Path.{refl}
use mathlib.Core.List.{List, flat_map}
use Rattle.clause.specs.Lists.{All, none, also, Hold, numbers_below}
use Rattle.clause.specs.Word.{kind, arity, sort_by, sort}
use Rattle.clause.specs.Clause.{scan_word, scan, shape, before, literals, skip, term, starts}
use Rattle.machine.specs.Instr.{key, instruction, instr_of}
use Rattle.machine.specs.Compile.{way, way_from, first, repeats, compares, opening, begun, closing, act, puts_after, sequence_from, sequence}
use Rattle.machine.specs.Machine.{onto, down, right, unfilled, given, require, same_terms, compare_terms, step_at, step_from, step, used, enter, finish_from, finish}
use Rattle.tree.specs.Keys.{lawful}
use Rattle.tree.specs.Forest.{layout, ins, del, find, holder}
use Rattle.tree.specs.Laid.{region, well_laid, decode}
use Rattle.tree.specs.Changes.{insert_into, remove_from}
use Rattle.walk.specs.Words.{extends}
use Rattle.walk.specs.Query.{shown, query}
use Rattle.tree.specs.Calls.{fresh, insertion, removal}
use Rattle.readback.specs.Readback.{variable_word, new_below, instructions, compared_by, origin, word_of, words_of, read_off, clause_of}
use Rattle.readback.specs.Saved.{has_keys, readable, of_clauses}
use Rattle.readback.specs.Calls.{check, written_out, read_back}
use Rattle.backward.specs.Listing.{placed, risen_over, rising, lone, tried, list_from}
use Rattle.backward.specs.Calls.{listed_in, list_into, backward}
use Rattle.book.specs.Trials.{trials}
use Rattle.book.specs.Readings.{readings}
use Rattle.clause.specs.Positions.{jump, push_due, siblings}

hold : {l : List (Type 0)} → All (λ row. row) l → Hold l
hold none = tt
hold (also h p) = (h, hold p)

pub trials_hold : Hold trials
unfolding flat_map kind arity sort_by sort scan_word scan shape before literals skip term starts key instruction instr_of way way_from numbers_below first
    repeats compares opening begun closing act puts_after sequence_from sequence jump push_due siblings onto down right unfilled given require same_terms compare_terms
    step_at step_from step used enter finish_from finish lawful layout ins find holder region well_laid decode insert_into extends shown query fresh
    insertion
trials_hold =
    hold (also refl (also refl (also refl (also refl (also refl (also refl (also refl (also refl (also refl (also refl (also refl none)))))))))))

-- so do the readings
pub readings_hold : Hold readings
unfolding flat_map kind arity sort_by sort scan_word scan shape before literals skip term starts key instruction instr_of way way_from numbers_below first
    repeats compares opening begun closing act puts_after sequence_from sequence jump push_due siblings onto down right unfilled given require same_terms compare_terms
    step_at step_from step used enter finish_from finish lawful layout ins find holder region well_laid decode insert_into extends shown query fresh
    insertion del remove_from removal variable_word new_below instructions compared_by origin word_of words_of read_off clause_of has_keys readable of_clauses
    check written_out read_back placed risen_over rising lone tried list_from listed_in list_into backward
readings_hold =
    hold (also refl (also refl (also refl (also refl (also refl (also refl (also refl (also refl (also refl (also refl (
    also refl (also refl (also refl (also refl (also refl (also refl (also refl (also refl (also refl (also refl (
    also refl (also refl (also refl (also refl (also refl (also refl (also refl (also refl (also refl (also refl (
    also refl (also refl (also refl (also refl (also refl (also refl (also refl (also refl (also refl (also refl (
    also refl (also refl (also refl (also refl (also refl (also refl (also refl (also refl (also refl (also refl (
    also refl (also refl (also refl (also refl (also refl (also refl (also refl (also refl (also refl (also refl (
    also refl (also refl (also refl (also refl (also refl (also refl (also refl (also refl (also refl (also refl (
    also refl (also refl (also refl (also refl (also refl (also refl (also refl (also refl (also refl (also refl (
    also refl (also refl (also refl (also refl (also refl (also refl (also refl (also refl (also refl (also refl (
    also refl (also refl (also refl (also refl (also refl (also refl (
    also refl (also refl (also refl (also refl none))))))))))))))))))))))))))))))))))))))))))))))))))))))))))))))))))))))))))))))))))))))))))))))))))))
