mod TwoFunctions
