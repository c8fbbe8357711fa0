use Rattle.std.proofs.Common.{refl}
use Rattle.sha1.specs.Sha1.{first_words, schedule, rounds, compress, hash_after, digest_bytes, sha1}
use Rattle.base64.specs.Rfc4648.{encode_symbols}
use Rattle.dill_ws.proofs.worked.accept_row.Goals as goal

pub returns : goal.returns
unfolding first_words schedule rounds compress hash_after digest_bytes sha1 encode_symbols
returns c = refl
