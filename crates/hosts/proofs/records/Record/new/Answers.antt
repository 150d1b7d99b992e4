use Rattle.hosts.specs.Records.{host_bytes, texts_refusal, names_refusal, meaning_of}
use Rattle.hosts.proofs.Recording.{passed, recorded}
use Rattle.hosts.proofs.records.Record.new.Goals as goal

pub returns : goal.returns
returns c =
    let f = c.args.fields.now in
    let ns = c.args.names.now in
    recorded f ns (meaning_of host_bytes c.owned.result ns) (passed (texts_refusal f) c.in_ok-check_texts.ensures) (passed (names_refusal ns) c.in_ok-check_names.ensures) (c.owned.ensures ns)
