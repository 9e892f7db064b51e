-- What is handed back where there is room, by the test of the file.
use Rattle.std.proofs.Common.{◌≡◌, ◌≤◌, length, true, false, rules}
use Rattle.transcript.specs.Files.{good_file}
use Rattle.transcript.specs.Text.{text_room}
use Rattle.transcript.proofs.Writing.{bad-written, good-written}
use Rattle.transcript.proofs.text.session_text.Goals as goal

pub returns-then-good_file-clause-result : goal.returns-then-good_file-clause-result
returns-then-good_file-clause-result c =
    let h : text_room ≤ length c.args.out.now = search rules in
    let g : good_file c.args.file.now ≡ true = search rules in
    (good-written c.args.file.now h g c.put_session.ensures).0

pub returns-then-good_file-clause-area : goal.returns-then-good_file-clause-area
returns-then-good_file-clause-area c =
    let h : text_room ≤ length c.args.out.now = search rules in
    let g : good_file c.args.file.now ≡ true = search rules in
    (good-written c.args.file.now h g c.put_session.ensures).1

pub returns-else-good_file-clause-result : goal.returns-else-good_file-clause-result
returns-else-good_file-clause-result c =
    let h : text_room ≤ length c.args.out.now = search rules in
    let g : good_file c.args.file.now ≡ false = search rules in
    (bad-written c.args.file.now h g c.put_text.ensures).0

pub returns-else-good_file-clause-area : goal.returns-else-good_file-clause-area
returns-else-good_file-clause-area c =
    let h : text_room ≤ length c.args.out.now = search rules in
    let g : good_file c.args.file.now ≡ false = search rules in
    (bad-written c.args.file.now h g c.put_text.ensures).1
