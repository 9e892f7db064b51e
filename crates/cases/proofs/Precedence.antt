-- The order of refusals, and each clause of a state in order, by computation.
use mathlib.Core.Path.{refl}
use Rattle.laws.specs.Ring.{kept_places}
use Rattle.wire.specs.Header.{message}
use Rattle.keywords.specs.Keywords.{lower}
use Rattle.keywords.specs.Keywords.{is_separator, keywords_of, pieces, filled}
use Rattle.keywords.specs.Hash.{xor32, hash_of, word}
use Rattle.tables.specs.Tables.{good_length, table_in_order}
use Rattle.tables.specs.Patch.{numbers, added, all_fit}
use Rattle.tables.specs.Updates.{update_answer, updated, good_reset, good_patch, in_turn, in_range, reset_by, moved_on}
use Rattle.tables.specs.Updates.{patch_by, broken_by}
use Rattle.tables.specs.Admission.{withholds}
use Rattle.protocol.specs.Memory.{queries_in, find, remember, no_twice, memory_in_order}
use Rattle.protocol.specs.Lines.{stored_pongs}
use Rattle.protocol.specs.Order.{line_in_order, in_order}
use Rattle.protocol.specs.Queries.{until_zero, query_step}
use Rattle.protocol.specs.Hits.{hit_step}
use Rattle.protocol.specs.Pings.{walk, pongs_sent, ping_step, pong_step}
use Rattle.protocol.specs.Calls.{fresh, opening, closing, early, update_step, by_type, arriving, own_answer, asking}
use Rattle.cases.specs.Cases.{begun, own, update, number, query, p1, p2, p3, p4, eb}
use Rattle.cases.specs.Cases.{opened, waits, settles}
use Rattle.cases.specs.Precedence.{precedence, Precedence, hit, ping, came, asked}
use Rattle.cases.specs.Clauses.{full, ring_clauses, line_clauses, table_clauses, Clauses}

all_so : Precedence × Clauses
unfolding begun own update number query p1 p2 p3 p4 eb opened waits settles
    precedence hit ping came asked full ring_clauses line_clauses table_clauses
    kept_places message is_separator lower keywords_of pieces filled xor32 hash_of word good_length table_in_order numbers
    added all_fit update_answer updated good_reset good_patch in_turn in_range reset_by moved_on patch_by broken_by withholds
    queries_in find remember no_twice memory_in_order stored_pongs line_in_order in_order until_zero query_step hit_step walk
    pongs_sent ping_step pong_step fresh opening closing early update_step by_type arriving own_answer asking
all_so = (refl, record { ring = refl; lines = refl; tables = refl })

pub all-answered : Precedence
all-answered = all_so.0

pub clauses : Clauses
clauses = all_so.1
