-- The names of the errnos, as libdill's manual writes them.
use Rattle.std.specs.Prelude.{ℕ, List, codes}
use Rattle.dill_base.specs.declared.errno.Errno.{Errno}
use Rattle.dill_base.specs.declared.errno.Errno.TheVariants.{Ebadf, Enotsup, Einval, Ebusy, Epipe, Econnreset, Emsgsize, Emfile, Enomem, Ecanceled, Etimedout, Eproto, Econnrefused, Eaddrinuse, Eaddrnotavail, Ehostunreach}

abbrev pub errno_text : Errno → List ℕ
errno_text Ebadf = codes "EBADF"
errno_text Enotsup = codes "ENOTSUP"
errno_text Einval = codes "EINVAL"
errno_text Ebusy = codes "EBUSY"
errno_text Epipe = codes "EPIPE"
errno_text Econnreset = codes "ECONNRESET"
errno_text Emsgsize = codes "EMSGSIZE"
errno_text Emfile = codes "EMFILE"
errno_text Enomem = codes "ENOMEM"
errno_text Ecanceled = codes "ECANCELED"
errno_text Etimedout = codes "ETIMEDOUT"
errno_text Eproto = codes "EPROTO"
errno_text Econnrefused = codes "ECONNREFUSED"
errno_text Eaddrinuse = codes "EADDRINUSE"
errno_text Eaddrnotavail = codes "EADDRNOTAVAIL"
errno_text Ehostunreach = codes "EHOSTUNREACH"
