-- Lines worked by hand, which the definitions compute.
use Rattle.std.specs.Prelude.{◌≡◌, ◌∷◌, [], ◌++◌, codes, Some, None, Ok, Err}
use Rattle.dill_base.specs.declared.errno.Errno.TheVariants.{Einval, Eproto}
use Rattle.dill_base.specs.declared.errno.Front.TheVariants.{Whole, Need, Fault}
use Rattle.dill_http.specs.Lines.{crlf, front_of_line}
use Rattle.dill_http.specs.Heads.{Request, Status, Field}
use Rattle.dill_http.specs.Reading.{span, cut_at, request_cut, status_cut, field_cut}
use Rattle.dill_http.specs.Writing.{line_due}

-- each line and what it is
pub record LineRows : Type 0 where
  -- the name and the value, without the blanks round it
  pub field : field_cut (codes "Host:  x ") ≡ Some (cut_at (span 0 4) (span 7 8))
  pub blank_in_name : field_cut (codes "Ho st: x") ≡ None
  pub no_name : field_cut (codes ": x") ≡ None
  pub no_reason : status_cut (codes "HTTP/1.0 204") ≡ Some (204, span 12 12)
  pub blank_before_value : line_due (Field (codes "a") (codes " b")) ≡ Err Einval
  -- what is written
  pub request : line_due (Request (codes "GET") (codes "/")) ≡ Ok (codes "GET / HTTP/1.1" ++ crlf)
  pub host : line_due (Field (codes "Host") (codes "h")) ≡ Ok (codes "Host: h" ++ crlf)
  pub status : line_due (Status 200 (codes "OK")) ≡ Ok (codes "HTTP/1.1 200 OK" ++ crlf)
  -- the front of what has come
  pub line_feed_alone : front_of_line (10 ∷ []) ≡ Fault Eproto
  pub cut_line : front_of_line (codes "a" ++ 13 ∷ []) ≡ Need
  pub return_alone : front_of_line (codes "a" ++ 13 ∷ codes "b") ≡ Fault Eproto
  pub line : front_of_line (codes "a" ++ crlf ++ codes "b") ≡ Whole 0 1 3
  pub empty_line : front_of_line crlf ≡ Whole 0 0 2
  -- a request line, either version
  pub asked : request_cut (codes "POST /a HTTP/1.1") ≡ Some (cut_at (span 0 4) (span 5 7))
  pub asked_old : request_cut (codes "GET / HTTP/1.0") ≡ Some (cut_at (span 0 3) (span 4 5))
  pub asked_new : request_cut (codes "GET / HTTP/2.0") ≡ None
