-- Every definition, open to computing: a statement with the line `unfolding computing` under it can be proved by computing it.
use Rattle.definition.specs.Bytes.{when◌then◌else◌, be16, be32, be64, signed, bits}
use Rattle.definition.specs.Writing.{put_e, count, put_s, put_b, write, size_e, size_s, size_b}
use Rattle.definition.specs.Fault.{◌>>=◌, ◌>>◌, refuse}
use Rattle.definition.specs.Reading.{location_of, located, entered, begin, expr_tag, code_field, number_field, string_field, fields, node_of, operands, by_tag, expr, stmt_tag, items, else_field, if_fields, make_if, if_stmt, lock_stmt, expr_stmt, by_sort, stmt, marked, head, read}
use Rattle.definition.specs.Folding.{kept, flag, same_z, is_zero, unary_of, binary_of, compare_of, logical_of, on_value, fold, contains}
use Rattle.definition.specs.Paths.{paths_s, paths_b, pieces, any_checksig}
use Rattle.definition.specs.Formula.{on_made, same_location, index_of, with_location, sig_atom, free_atom, some_byte, pushed_truth, by_fold, otherwise, sided, joined, literal_of, beside, translate, path_formula, bit, sig_value, free_value, eval_formula, satisfies}
use Rattle.definition.specs.Accepted.{compiled, compile, accepted, first_of, path_of, counted, count_paths, numbered, path_free_atoms}
use Rattle.definition.specs.Verdict.{atoms, bound, over_verdict, found_verdict, finish, least, search, after_liveness, after_security, unstopped, checked, check_necessity, found, queried, satisfiable}
use Rattle.definition.specs.Place.{enter, start, after, trial, look, idle, moved, slice, under, assignments, spent, room, behind, fits, started, fitting, sliced}
use Rattle.definition.specs.Checkpoint.{checkpoint, place_in, read_checkpoint, image_part, checkpoint_image, write_checkpoint, overlaid, buffer_after}
use Rattle.definition.specs.Values.{verdict_values, checked_values, said_values, shown_place, counted_values, numbered_values, satisfiable_values}

unfoldable pub computing : Unit {0}
unfolding when◌then◌else◌ be16 be32 be64 signed bits
    put_e count put_s put_b write size_e size_s size_b
    ◌>>=◌ ◌>>◌ refuse
    location_of located entered begin expr_tag code_field number_field string_field fields node_of operands by_tag expr stmt_tag items else_field if_fields make_if if_stmt lock_stmt expr_stmt by_sort stmt marked head read
    kept flag same_z is_zero unary_of binary_of compare_of logical_of on_value fold contains
    paths_s paths_b pieces any_checksig
    on_made same_location index_of with_location sig_atom free_atom some_byte pushed_truth by_fold otherwise sided joined literal_of beside translate path_formula bit sig_value free_value eval_formula satisfies
    compiled compile accepted first_of path_of counted count_paths numbered path_free_atoms
    atoms bound over_verdict found_verdict finish least search after_liveness after_security unstopped checked check_necessity found queried satisfiable
    enter start after trial look idle moved slice under assignments spent room behind fits started fitting sliced
    checkpoint place_in read_checkpoint image_part checkpoint_image write_checkpoint overlaid buffer_after
    verdict_values checked_values said_values shown_place counted_values numbered_values satisfiable_values
computing = tt
